use Rattle.xcp_seats.specs.Ticking.{Ticked, task_at}
use Rattle.xcp_seats.specs.Trails.{Repeats}
use Rattle.xcp_seats.proofs.ticker.Ticker.tick.Given as goal

abbrev pub invariant-loop-cycle : goal.invariant-loop-cycle
invariant-loop-cycle g l = Repeats (Ticked g.N.Name.layout l.task) (task_at 0 l.initial.member l.initial.reader l.initial.image) (task_at l.number l.member l.reader l.image)
