use Rattle.std.proofs.Common.{◌≡◌, ◌≤◌, [], ◌∷◌, length, replicate, arith, sym, subst, None}
use Rattle.std.proofs.lemmas.Grind.{common_steps}
use Rattle.pin_core.specs.State.{PinState, opening, width}
use Rattle.pin_core.specs.CoreFields.{state_of}
use Rattle.pin_core.specs.StateInvariant.{Lawful}
use Rattle.pin_core.proofs.OpeningLaws.{opening_lawful}
use Rattle.pin_core.proofs.pins.Core.new.Goals as goal

built : (c : goal.After-six_readers) → opening c.args.first.now ≡ state_of 0 0 c.in_ok-buffers.buffers.items (replicate 8 0) c.six_readers.result (replicate 8 0) None None 0 c.push.new.self.items
built c =
    let words : c.in_ok-buffers.buffers.items ≡ c.args.first.now ∷ replicate 7 (replicate (length c.args.first.now) 0) = c.in_ok-buffers.ensures in
    let image : c.push.new.self.items ≡ c.args.first.now ∷ [] = grind (arith, common_steps) in
    λ i. state_of 0 0 (sym words i) (replicate 8 0) (sym c.six_readers.ensures i) (replicate 8 0) None None 0 (sym image i)

pub invariant_of-result : goal.invariant_of-result
invariant_of-result c =
    let few : length c.args.first.now ≤ 131073 = c.requires.few_words in
    (omega arith, subst (λ (s : PinState). Lawful (width s) s) (built c) (opening_lawful c.args.first.now c.requires.some_words few))

pub returns : goal.returns
returns c = sym (built c)
