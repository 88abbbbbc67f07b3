use Rattle.std.proofs.Common.{ap, ◌∙◌}
use Rattle.xcp_slave.specs.SlaveValue.{opening}
use Rattle.xcp_locked.specs.LockedSlave.{LockedValue}
use Rattle.xcp_stay.proofs.staying.make_ready.Goals as goal

pub returns-clause-first : goal.returns-clause-first
returns-clause-first g c =
    let at = c.in_ok-opening.ensures.locked in
    let boxed = (c.in_ok-boxed.ensures {u = tt}).ok in
    (ap (λ o. o.locked.chapter) boxed ∙ ap (λ (l : LockedValue). l.chapter) at, ap (λ o. o.locked.before) boxed ∙ ap (λ (l : LockedValue). l.before) at, ap (λ o. o.locked.base) boxed ∙ (ap (λ (l : LockedValue). l.base) at ∙ ap opening c.requires.name.2))
