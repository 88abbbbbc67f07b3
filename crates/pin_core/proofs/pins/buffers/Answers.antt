use Rattle.std.proofs.Common.{◌≡◌, ℕ, ◌≤◌, ◌-◌, List, ◌∷◌, ◌++◌, [], length, replicate, arith, sym, ap, ◌∙◌}
use Rattle.pin_core.proofs.OpeningLaws.{replicate_next}
use Rattle.pin_core.proofs.pins.buffers.Goals as goal

pub loop-made-preserved : goal.loop-made-preserved
loop-made-preserved c =
    let low : 1 ≤ c.loop-made._made = omega arith in
    let first : List ℕ = c.args.first.now in
    let zeros : List ℕ = replicate (length first) 0 in
    let next = replicate_next c.loop-made._made zeros low in
    let pushed : c.push-in-loop-made.new.self.items ≡ c.loop-made.buffers.items ++ c.in_ok-zeros.field-0 ∷ [] = c.in_ok-push-2.ensures.items in
    pushed ∙ ((λ i. c.loop-made.invariant i ++ c.in_ok-zeros.ensures i ∷ []) ∙ ap (λ (l : List (List ℕ)). first ∷ l) (sym next))

pub returns : goal.returns
returns c =
    let all : c.loop-made._made - 1 ≡ 7 = omega arith in
    c.loop-made.invariant ∙ ap (λ (n : ℕ). c.args.first.now ∷ replicate n (replicate (length c.args.first.now) 0)) all
