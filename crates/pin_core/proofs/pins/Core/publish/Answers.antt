use Rattle.std.proofs.Common.{◌≡◌, ℕ, ◌<◌, List, ◌∷◌, ◌++◌, [], length, set, arith, sym, refl, ap, ◌∙◌, subst, None}
use Rattle.std.proofs.lemmas.Grind.{common_steps}
use Rattle.pin_core.specs.State.{PinState, words_of_buffer, width}
use Rattle.pin_core.specs.CoreFields.{state_of}
use Rattle.pin_core.specs.Effects.{CanPublish, after_publish}
use Rattle.pin_core.specs.StateInvariant.{Lawful}
use Rattle.pin_core.specs.contracts.pins.Core.{the_view}
use Rattle.pin_core.proofs.ListLemmas.{there}
use Rattle.pin_core.proofs.WrittenPrefixLemmas.{length_front}
use Rattle.pin_core.proofs.WriterStepLemmas.{publish_keeps, built_whole}
use Rattle.pin_core.proofs.pins.Core.publish.Goals as goal

-- the condition of the event, and the state behind it
happened : (c : goal.After-self-5-1) → CanPublish (width (the_view c.self.inside)) (the_view c.self.inside) c.in-Some.b
    × (after_publish (the_view c.self.inside) c.in-Some.b ≡ state_of c.in-Some.b 0 c.self.inside.buffers.items c.self.inside.leavings c.self.inside.readers (set c.self.inside.writer.started c.from-2.result c.self.inside.count) None None 0 c.push.new.self.items)
happened c =
    let s : PinState = the_view c.self.inside in
    let law = c.self.invariant.1 in
    let b : ℕ = c.in-Some.b in
    let n : ℕ = c.self.inside.writer.written in
    let low = (law.builds.building b c.in-Some.is).buffer in
    let eight = law.sizes.buffers in
    let here : c.from.result < length s.words = omega arith in
    let was : c.index-built.result.now ≡ words_of_buffer s b = c.index-built.ensures ∙ there s.words c.from.result b c.index-built.result.now [] c.from.ensures here in
    let wide = law.sizes.widths b low in
    let len : c.len.result ≡ width s = c.len.ensures ∙ (ap length was ∙ wide) in
    let whole : n ≡ width s = c.if-self-len.false ∙ len in
    let can : CanPublish (width s) s b = (c.in-Some.is, length_front s.writer.building b n s.words c.in-Some.is (omega arith) ∙ whole) in
    let image : c.in-Ok.image ≡ s.writer.written = c.in-Ok.ensures ∙ (c.as_slice.ensures ∙ (was ∙ built_whole (width s) s b law can)) in
    let pushed : c.push.new.self.items ≡ s.writer.publications ++ c.in-Ok.image ∷ [] = grind (arith, common_steps) in
    let more : c.push.new.self.items ≡ s.writer.publications ++ s.writer.written ∷ [] = pushed ∙ ap (λ (l : List ℕ). s.writer.publications ++ l ∷ []) image in
    (can, λ i. state_of b 0 s.words s.leavings s.readers (set s.writer.started (sym c.from-2.ensures i) s.count) None None 0 (sym more i))

pub invariant_of-self-2 : goal.invariant_of-self-2
invariant_of-self-2 c =
    let s : PinState = the_view c.self.inside in
    let h = happened c in
    (omega arith, subst (Lawful (width s)) h.1 (publish_keeps (width s) s c.in-Some.b c.self.invariant.1 h.0))

pub returns-clause-done : goal.returns-clause-done
returns-clause-done c =
    let h = happened c in
    rw (← c.self.view_is) (c.in-Some.b, h.0, refl, sym h.1)
