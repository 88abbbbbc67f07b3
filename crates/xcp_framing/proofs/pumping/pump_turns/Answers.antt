use Rattle.std.proofs.Common.{ℕ, arith}
use Rattle.xcp_framing.specs.ServeRefusal.{StationRefused}
use Rattle.xcp_framing.specs.Pump.{DrainAgain}
use Rattle.xcp_framing.proofs.ExchangeLemmas.{passed_on}
use Rattle.xcp_framing.proofs.ServeRefusalLemmas.{on_refusal_map, refused_more}
use Rattle.xcp_framing.proofs.DrainLemmas.{again, pumps_back, pumps_drained, pumps_err, pumps_kept, pumps_more, pumps_put}
use Rattle.xcp_framing.proofs.pumping.pump_turns.Goals as goal
use Rattle.xcp_framing.proofs.pumping.pump_turns.Goals.{then-drained-eq0+in_ok-hand_on, else-drained-eq0}

pub returns-in_err-drained-clause-pumps : goal.returns-in_err-drained-clause-pumps
returns-in_err-drained-clause-pumps g c =
    rw (passed_on c.from_residual-in_err-drained.result c.in_err-drained.field-0.0 c.from_residual-in_err-drained.ensures.1)
    (pumps_err c.loop-turn.count _ c.loop-turn.invariant.pumps (pumps_drained 64 _ c.in_ok-make_room.ensures.moves c.in_err-drained.ensures.drains))

pub returns-in_err-drained-clause-refused : goal.returns-in_err-drained-clause-refused
returns-in_err-drained-clause-refused g c =
    let so = c.loop-turn.invariant.pumps in
    rw (passed_on c.from_residual-in_err-drained.result c.in_err-drained.field-0.0 c.from_residual-in_err-drained.ensures.1)
    (on_refusal_map ℕ ℕ c.in_err-drained.field-0.0
    (λ e. StationRefused g.S.Station.exchanges g.S.Station.refuses e DrainAgain (g.S.Station.exchanges c.loop-turn.station) c.drain_into.new.self)
    (λ e. StationRefused g.S.Station.exchanges g.S.Station.refuses e DrainAgain (g.S.Station.exchanges c.args.station.now) c.drain_into.new.self)
    (λ e r. refused_more g.S.Station.exchanges g.S.Station.refuses e DrainAgain DrainAgain so.exchanges so.grown (λ ys q n. again so.exchanges ys q so.drains n) r) c.in_err-drained.ensures.refused)

pub returns-in_err-hand_on-clause-pumps : goal.returns-in_err-hand_on-clause-pumps
returns-in_err-hand_on-clause-pumps g c =
    let so = pumps_more c.loop-turn.count c.in_ok-drained.drained c.loop-turn.invariant.pumps (pumps_drained 64 _ c.in_ok-make_room.ensures.moves c.in_ok-drained.ensures.drains) in
    rw (passed_on c.from_residual-in_err-hand_on.result c.in_err-hand_on.field-0.0 c.from_residual-in_err-hand_on.ensures.1)
    (pumps_back _ c.in_err-hand_on.field-0.0 _ _ c.in_err-hand_on.ensures.err c.in_err-hand_on.ensures.back.0 c.in_err-hand_on.ensures.back.1 c.hand_on.ensures.held so)

pub returns-in_err-hand_on-clause-kept : goal.returns-in_err-hand_on-clause-kept
returns-in_err-hand_on-clause-kept g c = g.met.E.End.same_trans _ _ _ c.loop-turn.invariant.kept (g.met.E.End.same_trans _ _ _ c.make_room.ensures.same c.hand_on.ensures.same)

pub returns-in_err-hand_on-clause-stays : goal.returns-in_err-hand_on-clause-stays
returns-in_err-hand_on-clause-stays g c = g.met.S.Station.same_trans _ _ _ c.loop-turn.invariant.stays c.in_ok-drained.ensures.stays

pub loop-turn-preserved : goal.loop-turn-preserved
loop-turn-preserved g c =
    let so = pumps_more c.loop-turn.count c.in_ok-drained.drained c.loop-turn.invariant.pumps (pumps_drained 64 _ c.in_ok-make_room.ensures.moves c.in_ok-drained.ensures.drains) in
    let stays = g.met.S.Station.same_trans _ _ _ c.loop-turn.invariant.stays c.in_ok-drained.ensures.stays in
    let kept = g.met.E.End.same_trans _ _ _ c.loop-turn.invariant.kept c.make_room.ensures.same in
    elim c.if-drained-eq0.branch [
      | then-drained-eq0+in_ok-hand_on w ↦ rw (w.station-is, w.end-is, w.batch-is) (record {
        pumps = pumps_kept _ _ _ _ w.wait.ensures.same (pumps_put _ _ _ (w.in_ok-hand_on.ensures.ok) w.hand_on.ensures.held so);
        stays = g.met.S.Station.same_trans _ _ _ stays w.wait.ensures.stays;
        kept = g.met.E.End.same_trans _ _ _ kept w.hand_on.ensures.same;
        bound = omega (arith, c.loop-turn.invariant.bound, c.in_ok-drained.ensures.most);
      })
      | else-drained-eq0 w ↦ rw (w.station-is, w.end-is, w.batch-is) (record {
        pumps = so;
        stays = stays;
        kept = kept;
        bound = omega (arith, c.loop-turn.invariant.bound, c.in_ok-drained.ensures.most);
      })
    ]
