use Rattle.std.proofs.Common.{◌≡◌, ◌≤◌, ◌-◌, ◌++◌, length, take, drop, arith, ◌∙◌, sym, ap, None, List}
use Rattle.std.specs.Prelude.{replicate, Option}
use Rattle.xcp_daq.specs.declared.element.Element.{Element}
use Rattle.xcp_daq.specs.private.SplicedPools.{total}
use Rattle.xcp_daq.proofs.ListLoopLemmas.{refilled}
use Rattle.xcp_daq.proofs.OdtLemmas.{lists_are, list_in, unwritten, totals_order}
use Rattle.xcp_daq.proofs.odts.Odts.unwrite.Goals as goal

pub blank-requires-clause-order : goal.blank-requires-clause-order
blank-requires-clause-order c =
    let ec = c.self.inside.entry_counts.items in
    let from : c.sum_before-from.result ≡ total (take c.sum_before-first.result ec) = rw c.deref-3.ensures.value at c.sum_before-from.ensures.value in
    let to : c.sum_before-to.result ≡ total (take c.end_of-end.result ec) = rw c.deref-4.ensures.value at c.sum_before-to.ensures.value in
    let order : c.sum_before-first.result ≤ c.end_of-end.result = grind arith in
    omega (arith, totals_order ec c.sum_before-first.result c.end_of-end.result order, from, to)

pub returns-clause-lists : goal.returns-clause-lists
returns-clause-lists c =
    let s = c.self.inside in
    let is = lists_are c.self.view_is in
    let from = c.sum_before-from.result in
    let to = c.sum_before-to.result in
    let h = list_in _ _ _ _ c.args.i is c.requires in
    let first = rw c.deref.ensures.value at c.sum_before-first.ensures.value in
    let end = rw c.deref-2.ensures.value at c.end_of-end.ensures.value in
    let first_entry = rw c.deref-3.ensures.value at c.sum_before-from.ensures.value in
    let last_entry = rw c.deref-4.ensures.value at c.sum_before-to.ensures.value in
    let new = c.blank.ensures ∙ ap (λ (xs : List (Option Element)). take from xs ++ replicate (to - from) None ++ drop to xs) c.deref_mut.ensures.value in
    let long = c.blank.auto.pool ∙ ap length c.deref_mut.ensures.value in
    let whole = refilled s.entries.len c.blank.new.pool s.entries.items (sym c.deref_mut.ensures.len ∙ ap length c.deref_mut.ensures.value) long ∙ new in
    unwritten _ _ _ _ _ c.args.i c.sum_before-first.result c.end_of-end.result from to is c.self.invariant.fit h first end first_entry last_entry whole
