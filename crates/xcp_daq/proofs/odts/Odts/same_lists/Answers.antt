use Rattle.std.proofs.Common.{◌≡◌, ◌≢◌, ◌∙◌, sym, MatchBool, Bool, true, false}
use Rattle.xcp_daq.proofs.OdtLemmas.{lists_are, tree}
use Rattle.xcp_daq.proofs.SameListLemmas.{same_pools}
use Rattle.xcp_daq.proofs.odts.Odts.same_lists.Goals as goal

pub returns-then-not-same_counts : goal.returns-then-not-same_counts
returns-then-not-same_counts c = λ e.
    c.if-not-same_counts.ensures {u = tt} (c.deref.ensures.value ∙ (same_pools _ _ _ _ _ _ c.self.invariant.fit c.other.invariant.fit (lists_are c.self.view_is ∙ e ∙ sym (lists_are c.other.view_is))).odt_counts ∙ sym c.deref-2.ensures.value)

pub returns-then-not-same_counts-2 : goal.returns-then-not-same_counts-2
returns-then-not-same_counts-2 c = λ e.
    c.if-not-same_counts-2.ensures {u = tt} (c.deref-3.ensures.value ∙ (same_pools _ _ _ _ _ _ c.self.invariant.fit c.other.invariant.fit (lists_are c.self.view_is ∙ e ∙ sym (lists_are c.other.view_is))).entry_counts ∙ sym c.deref-4.ensures.value)

pub returns : goal.returns
returns c = by_entries c.same_entries.result (rw (c.deref-5.ensures.value, c.deref-6.ensures.value) at c.same_entries.ensures)
  where
    by_entries : (b : Bool) → MatchBool b (c.self.inside.entries.items ≡ c.other.inside.entries.items) (c.self.inside.entries.items ≢ c.other.inside.entries.items) → MatchBool b (c.args.self.now.lists ≡ c.args.other.now.lists) (c.args.self.now.lists ≢ c.args.other.now.lists)
    by_entries true h =
        let odts = sym c.deref.ensures.value ∙ c.if-not-same_counts.ensures {u = tt} ∙ c.deref-2.ensures.value in
        let counts = sym c.deref-3.ensures.value ∙ c.if-not-same_counts-2.ensures {u = tt} ∙ c.deref-4.ensures.value in
        sym (lists_are c.self.view_is) ∙ (λ i. tree (odts i) (counts i) (h i)) ∙ lists_are c.other.view_is
    by_entries false h = λ e.
        h (same_pools _ _ _ _ _ _ c.self.invariant.fit c.other.invariant.fit (lists_are c.self.view_is ∙ e ∙ sym (lists_are c.other.view_is))).entries
