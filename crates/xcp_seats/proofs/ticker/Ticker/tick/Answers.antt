use Rattle.xcp_seats.specs.Ticking.{Ticked}
use Rattle.xcp_seats.proofs.TrailLemmas.{one_more}
use Rattle.xcp_seats.proofs.ticker.Ticker.tick.Goals as goal

pub loop-cycle-preserved : goal.loop-cycle-preserved
loop-cycle-preserved g c = one_more (Ticked g.N.Name.layout c.self.inside.task) _ _ _ c.loop-cycle.invariant c.cycle.ensures
