use Rattle.std.proofs.Common.{◌∙◌, refl, sym, inl, inr}
use Rattle.xcp_connection.proofs.HeardSoFarLemmas.{drained_further, drained_more, drained_none}
use Rattle.xcp_connection.proofs.pumping.drain.Goals as goal

pub loop-call-init : goal.loop-call-init
loop-call-init g c = record {
  drained = drained_none _ _;
  first = inr (refl, refl);
  stays = g.met.S.Station.same_refl c.args.station.now;
  outlet = refl;
  side = refl;
}

pub returns-then-is_err-clause-drains : goal.returns-then-is_err-clause-drains
returns-then-is_err-clause-drains g c = drained_further _ _ _ _ _ _ _ c.loop-call.invariant.drained c.pump-outcome.ensures.pumps

pub loop-call-preserved : goal.loop-call-preserved
loop-call-preserved g c =
    let was = c.loop-call.invariant in
    let done = c.pump-outcome in
    let fine = sym c.is_err.ensures.value ∙ c.if-is_err.false in
    record {
      drained = drained_more _ _ _ _ _ _ _ fine was.drained done.ensures.pumps;
      first = inl c.if-not-goes_on.false;
      stays = g.met.S.Station.same_trans c.args.station.now c.loop-call.station done.new.station was.stays done.ensures.stays;
      outlet = done.ensures.kept.0 ∙ was.outlet;
      side = done.ensures.kept.1 ∙ was.side;
    }
