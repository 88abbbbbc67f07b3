use Rattle.std.proofs.Common.{[], subst}
use Rattle.xcp_seats.specs.Ticking.{Ticked, Ticks, TaskValue, task_at}
use Rattle.xcp_seats.proofs.TrailLemmas.{none_yet}
use Rattle.xcp_seats.proofs.ticker.TickerWorkRested.leave.Goals as goal

pub returns : goal.returns
returns g c =
    let k = c.self.inside in
    subst (λ (v : TaskValue). Ticks g.N.Name.layout v.task v.caller k.member v.reader k.reader) c.self.view_is
    (record { cycle = 0; image = []; image' = []; cycles = none_yet (Ticked g.N.Name.layout k.task) (task_at 0 k.member k.reader []) })
