use Rattle.std.proofs.Common.{◌∙◌, List, subst, sym}
use Rattle.std.proofs.lemmas.Result.{IfOk-weaker}
use Rattle.xcp_locked.specs.Caller.{CallerValue}
use Rattle.xcp_service.specs.Parcels.{AreNumbered}
use Rattle.xcp_stay.proofs.TeamLemmas.{written_back}
use Rattle.xcp_stay.proofs.ending.conclude.Goals as goal

pub settle-requires-clause-numbered : goal.settle-requires-clause-numbered
settle-requires-clause-numbered g c =
    let members = c.in_ok-members.members in
    let kept = written_back members.items c.deref_mut.result.now c.take_rest.new.members members.len c.deref_mut.ensures.value c.deref_mut.ensures.len c.take_rest.ensures.members in
    subst (λ (l : List CallerValue). AreNumbered 0 l) (sym (kept ∙ c.in_ok-members.ensures {u = tt})) c.requires.numbered

pub returns : goal.returns
returns g c =
    let members = c.in_ok-members.members in
    let kept = written_back members.items c.deref_mut.result.now c.take_rest.new.members members.len c.deref_mut.ensures.value c.deref_mut.ensures.len c.take_rest.ensures.members in
    IfOk-weaker c.settle.result _ _ (λ s both. (both.0, both.1 ∙ (kept ∙ c.in_ok-members.ensures {u = tt}))) c.settle.ensures
