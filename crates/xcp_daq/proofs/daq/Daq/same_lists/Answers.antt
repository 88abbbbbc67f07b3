use Rattle.std.proofs.Common.{◌≡◌, ◌≢◌, ◌∙◌, ap, sym, MatchBool, Bool, true, false}
use Rattle.xcp_daq.specs.DaqLists.{DaqValue}
use Rattle.xcp_daq.specs.Pools.{lists_of}
use Rattle.xcp_daq.proofs.SameListLemmas.{same_modes, same_odts}
use Rattle.xcp_daq.proofs.daq.Daq.same_lists.Goals as goal

pub returns-then-not-same_modes : goal.returns-then-not-same_modes
returns-then-not-same_modes c = λ e.
    let all = ap (λ (d : DaqValue). d.lists) c.self.view_is ∙ e ∙ sym (ap (λ (d : DaqValue). d.lists) c.other.view_is) in
    c.if-not-same_modes.ensures {u = tt} (c.deref.ensures.value ∙ same_modes _ _ _ _ c.self.invariant.same c.other.invariant.same all ∙ sym c.deref-2.ensures.value)

pub returns : goal.returns
returns c = by_odts c.same_lists.result c.same_lists.ensures
  where
    by_odts : (b : Bool) → MatchBool b (c.self.inside.odts.lists ≡ c.other.inside.odts.lists) (c.self.inside.odts.lists ≢ c.other.inside.odts.lists) → MatchBool b (c.args.self.now.lists ≡ c.args.other.now.lists) (c.args.self.now.lists ≢ c.args.other.now.lists)
    by_odts true h =
        let modes = sym c.deref.ensures.value ∙ c.if-not-same_modes.ensures {u = tt} ∙ c.deref-2.ensures.value in
        sym (ap (λ (d : DaqValue). d.lists) c.self.view_is) ∙ (λ i. lists_of (modes i) (h i)) ∙ ap (λ (d : DaqValue). d.lists) c.other.view_is
    by_odts false h = λ e.
        h (same_odts c.self.inside.modes.items c.other.inside.modes.items _ _ c.self.invariant.same c.other.invariant.same (ap (λ (d : DaqValue). d.lists) c.self.view_is ∙ e ∙ sym (ap (λ (d : DaqValue). d.lists) c.other.view_is)))
