use Rattle.std.proofs.Common.{◌≡◌, ℕ, ◌<◌, ◌+◌, ◌∷◌, ◌++◌, [], length, set, arith, sym, refl, ap, ◌∙◌, subst}
use Rattle.pin_core.specs.State.{PinState, words_of_buffer, width}
use Rattle.pin_core.specs.CoreFields.{front_of, state_of}
use Rattle.pin_core.specs.Effects.{CanWrite, after_write}
use Rattle.pin_core.specs.StateInvariant.{Lawful}
use Rattle.pin_core.specs.contracts.pins.Core.{the_view}
use Rattle.pin_core.proofs.ListLemmas.{there}
use Rattle.pin_core.proofs.WrittenPrefixLemmas.{length_front, front_more}
use Rattle.pin_core.proofs.WriterStepLemmas.{write_keeps}
use Rattle.pin_core.proofs.pins.Core.write.Goals as goal

-- the condition of the event, and the state behind it
happened : (c : goal.After-self-3-1) → CanWrite (width (the_view c.self.inside)) (the_view c.self.inside) c.args.k c.in-Some.b
    × (after_write (the_view c.self.inside) c.args.k c.args.word c.in-Some.b ≡ state_of c.self.inside.index c.self.inside.count (set c.self.inside.buffers.items c.from.result c.set.new.self) c.self.inside.leavings c.self.inside.readers c.self.inside.writer.started c.self.inside.writer.quiet c.self.inside.writer.building (c.self.inside.writer.written + 1) c.self.inside.writer.publications.items)
happened c =
    let s : PinState = the_view c.self.inside in
    let law = c.self.invariant.1 in
    let b : ℕ = c.in-Some.b in
    let n : ℕ = c.self.inside.writer.written in
    let k : ℕ = c.args.k in
    let x : ℕ = c.args.word in
    let low = (law.builds.building b c.in-Some.is).buffer in
    let eight = law.sizes.buffers in
    let here : c.from.result < length s.words = omega arith in
    let inside : b < length s.words = omega arith in
    let was : c.index_mut-buffer.result.now ≡ words_of_buffer s b = c.index_mut-buffer.ensures.value ∙ there s.words c.from.result b c.index_mut-buffer.result.now [] c.from.ensures here in
    let wide = law.sizes.widths b low in
    let len : c.len.result ≡ width s = c.len.ensures ∙ (ap length was ∙ wide) in
    let place : k ≡ n = c.if-k-self.false in
    let fits : n < length (words_of_buffer s b) = omega arith in
    let can : CanWrite (width s) s k b = (c.in-Some.is, length_front s.writer.building b n s.words c.in-Some.is (omega arith) ∙ sym place, omega arith) in
    let row : c.set.new.self ≡ set (words_of_buffer s b) k x = c.set.ensures ∙ (λ i. set (was i) k x) in
    let all : set s.words c.from.result c.set.new.self ≡ set s.words b (set (words_of_buffer s b) k x) = λ i. set s.words (c.from.ensures i) (row i) in
    let next : n ≡ k = sym place in
    let front : front_of s.writer.building (n + 1) (set s.words c.from.result c.set.new.self) ≡ s.writer.written ++ x ∷ [] =
    (λ i. front_of s.writer.building (n + 1) (set s.words (c.from.ensures i) ((row ∙ ap (λ (m : ℕ). set (words_of_buffer s b) m x) (sym next)) i)))
    ∙ front_more s.writer.building b n s.words c.in-Some.is x inside fits in
    (can, λ i. record s { words = sym all i; writer = record s.writer { written = sym front i } })

pub invariant_of-self-2 : goal.invariant_of-self-2
invariant_of-self-2 c =
    let s : PinState = the_view c.self.inside in
    let h = happened c in
    let next = subst (Lawful (width s)) h.1 (write_keeps (width s) s c.args.k c.args.word c.in-Some.b c.self.invariant.1 h.0) in
    let same = next.sizes.widths 0 (omega arith) in
    let more = h.0.2 in
    (omega arith, subst (λ (w : ℕ). Lawful w (state_of c.self.inside.index c.self.inside.count (set c.self.inside.buffers.items c.from.result c.set.new.self) c.self.inside.leavings c.self.inside.readers c.self.inside.writer.started c.self.inside.writer.quiet c.self.inside.writer.building (c.self.inside.writer.written + 1) c.self.inside.writer.publications.items)) (sym same) next)

pub returns-clause-done : goal.returns-clause-done
returns-clause-done c =
    let h = happened c in
    rw (← c.self.view_is) (c.in-Some.b, h.0, refl, sym h.1)
