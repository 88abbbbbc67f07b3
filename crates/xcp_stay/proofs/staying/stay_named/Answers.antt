use Rattle.std.proofs.Common.{◌+◌, ℕ, [], ap, length, refl, subst, sym, ◌∙◌, arith}
use Rattle.xcp_locked.specs.Caller.{callers_of}
use Rattle.xcp_service.specs.Telling.{has_clock}
use Rattle.xcp_stay.specs.Team.{timekeepers}
use Rattle.xcp_stay.proofs.CountLemmas.{length-callers_of}
use Rattle.xcp_stay.proofs.KeptLemmas.{left_as}
use Rattle.xcp_stay.proofs.TimekeeperLemmas.{all_served_as}
use Rattle.xcp_stay.proofs.staying.stay_named.Goals as goal

pub stay_by_post-requires-clause-callers : goal.stay_by_post-requires-clause-callers
stay_by_post-requires-clause-callers g c =
    let ready = c.in_ok-ready.ensures in
    let opened = ap length ready.callers ∙ length-callers_of c.args.unnamed.layout c.args.unnamed.callers in
    omega (arith, opened, c.requires.callers)

pub returns : goal.returns
returns g c =
    let same = c.unboxed.ensures in
    record { leaves = left_as g.S.Scribe.wrote (λ l. c.args.plan.tools + c.args.plan.tools + c.args.plan.tasks + timekeepers l) _ _ _ _ _ _ _ _ _ _ (sym c.requires.name.2) (sym same.3) (sym same.0) (sym same.1) (ap (λ v. v.items) (sym same.2)) (c.in_ok-stayed.ensures {u = tt}).leaves; served = all_served_as _ _ _ _ _ _ _ _ (sym c.requires.name.2) (sym c.requires.name.1) (ap (λ v. v.items) (sym same.2)) (c.in_ok-stayed.ensures {u = tt}).served }
