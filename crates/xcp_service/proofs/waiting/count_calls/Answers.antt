use Rattle.std.proofs.Common.{◌+◌, ◌<◌, ℕ, List, length, refl, slice_index_or, slice_set, arith, ap, sym, subst}
use Rattle.xcp_trace.specs.declared.Entry.{Entry}
use Rattle.xcp_service.proofs.CountLemmas.{IsCounting, counting_all, counting_more, counting_none, zero_all, zeros_of}
use Rattle.xcp_service.proofs.waiting.count_calls.Goals as goal

pub loop-at-init : goal.loop-at-init
loop-at-init g c =
    let chapter = c.args.chapter.now in
    subst (λ (l : List Entry). IsCounting chapter.number chapter.entries l 0 (zeros_of 256)) (sym c.entries-entries.ensures) (counting_none chapter.number chapter.entries (zeros_of 256) refl (zero_all 256))

pub unreachable-requires : goal.unreachable-requires
unreachable-requires g c =
    let none = ap length (c.in_default.ensures {u = tt}).0 in
    let seen = c.loop-at.invariant.seen in
    omega (arith, none, seen, c.loop-at-test.true, c.len-at-end.ensures)

pub overflow_add-counts : goal.overflow_add-counts
overflow_add-counts g c =
    let few = c.loop-at.invariant.few c.caller.result in
    let most = c.known.ensures.few in
    omega (arith, few, most, c.loop-at-test.true, c.len-at-end.ensures)

pub loop-at-preserved : goal.loop-at-preserved
loop-at-preserved g c =
    let chapter = c.args.chapter.now in
    let e = c.in-Some.entry in
    let low : e.caller < 256 = subst (λ (n : ℕ). n < 256) c.caller.ensures c.caller.type_inv in
    let more = counting_more chapter.number chapter.entries c.loop-at.entries c.next_lent.new.self c.loop-at._at c.loop-at.counts e c.loop-at.invariant (c.in-Some.ensures {u = tt}) low in
    subst (λ (n : ℕ). IsCounting chapter.number chapter.entries c.next_lent.new.self (c.loop-at._at + 1) (slice_set c.loop-at.counts n (slice_index_or c.loop-at.counts n 0 + 1))) (sym c.caller.ensures) more

pub returns : goal.returns
returns g c =
    let seen = c.loop-at.invariant.seen in
    counting_all c.args.chapter.now.number c.args.chapter.now.entries c.loop-at.entries c.loop-at._at c.loop-at.counts c.loop-at.invariant (omega (arith, seen, c.loop-at-test.false, c.len-at-end.ensures))
