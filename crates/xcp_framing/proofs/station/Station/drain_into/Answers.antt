use Rattle.std.proofs.Common.{◌+◌, arith, refl}
use Rattle.xcp_slave.specs.declared.Exchange.{Exchange}
use Rattle.xcp_slave.specs.declared.Request.TheVariants as requests
use Rattle.xcp_slave.specs.AnswerInBytes.{answer_in}
use Rattle.xcp_framing.proofs.ExchangeLemmas.{passed_on}
use Rattle.xcp_framing.proofs.DrainLemmas.{drains_kept, drains_lost, drains_one, drains_within}
use Rattle.xcp_framing.proofs.station.Station.drain_into.Goals as goal

pub returns-in_err-gathered-clause-drains : goal.returns-in_err-gathered-clause-drains
returns-in_err-gathered-clause-drains g c =
    let x : Exchange = record { request = requests.Drain; answer = answer_in c.in_ok-told.told c.submit_into.new.packet } in
    let so = drains_kept c.loop-drain._drain c.loop-drain.count c.pending.ensures.same c.loop-drain.invariant.drains in
    rw (passed_on c.from_residual-in_err-gathered.result c.in_err-gathered.field-0.0 c.from_residual-in_err-gathered.ensures.1)
    (drains_within (c.loop-drain._drain + 1) _ _ (omega (arith, c.loop-drain-test.true))
    (drains_lost c.loop-drain._drain c.loop-drain.count _ x so refl c.in_ok-told.ensures.ok c.in_err-gathered.ensures.back.0 c.in_err-gathered.ensures.back.1 c.in_err-gathered.ensures.err))

pub loop-drain-preserved : goal.loop-drain-preserved
loop-drain-preserved g c =
    let x : Exchange = record { request = requests.Drain; answer = answer_in c.in_ok-told.told c.submit_into.new.packet } in
    let so = drains_kept c.loop-drain._drain c.loop-drain.count c.pending.ensures.same c.loop-drain.invariant.drains in
    record {
      drains = drains_one c.loop-drain._drain c.loop-drain.count _ x so refl c.in_ok-told.ensures.ok c.in_ok-gathered.ensures.ok.0 c.in_ok-gathered.ensures.ok.1;
      stays = g.met.Self.Station.same_trans _ _ _ c.loop-drain.invariant.stays (g.met.Self.Station.same_trans _ _ _ c.pending.ensures.stays c.in_ok-told.ensures.stays);
      bound = omega (arith, c.loop-drain.invariant.bound, c.in_ok-gathered.ensures.most);
    }

pub returns-then-gathered-eq0-clause-drains : goal.returns-then-gathered-eq0-clause-drains
returns-then-gathered-eq0-clause-drains g c =
    let x : Exchange = record { request = requests.Drain; answer = answer_in c.in_ok-told.told c.submit_into.new.packet } in
    let so = drains_kept c.loop-drain._drain c.loop-drain.count c.pending.ensures.same c.loop-drain.invariant.drains in
    drains_within (c.loop-drain._drain + 1) _ _ (omega (arith, c.loop-drain-test.true))
    (drains_one c.loop-drain._drain c.loop-drain.count _ x so refl c.in_ok-told.ensures.ok c.in_ok-gathered.ensures.ok.0 c.in_ok-gathered.ensures.ok.1)
