-- What stands where after a write over a part of an area.
use Rattle.std.proofs.Common.{◌≡◌, ℕ, ◌+◌, ◌-◌, ◌<◌, ◌≤◌, ◌⊎◌, inl, inr, List, length, get_or, ap, sym, ◌∙◌, arith}
use Rattle.std.proofs.lemmas.Grind.{elements}
use Rattle.xcp_memory.specs.ComputedAccess.{overwritten}
use Rattle.xcp_memory.specs.Memory.{Stands}
use Rattle.xcp_memory.proofs.PageLemmas.{length-overwritten}

before : (xs ys : List ℕ) (i p : ℕ) → i ≤ length xs → p < i → get_or (overwritten xs i ys) p 0 ≡ get_or xs p 0
before xs ys i p h k = grind (arith, elements)

within : (xs ys : List ℕ) (i p : ℕ) → i ≤ length xs → i ≤ p → p < i + length ys → get_or (overwritten xs i ys) p 0 ≡ get_or ys (p - i) 0
within xs ys i p h k l = grind (arith, elements)

after : (xs ys : List ℕ) (i p : ℕ) → i + length ys ≤ length xs → i + length ys ≤ p → get_or (overwritten xs i ys) p 0 ≡ get_or xs p 0
after xs ys i p h k = grind (arith, elements)

-- inside the range the new bytes stand
pub now_stands : (s a b y : ℕ) (xs ys : List ℕ) → s ≤ a → a + length ys ≤ s + length xs → Stands a ys b y → Stands s (overwritten xs (a - s) ys) b y
now_stands s a b y xs ys h k t =
    let l = length-overwritten xs ys (a - s) (omega arith) in
    let e : b - s - (a - s) ≡ b - a = omega (arith, t.from) in
    record { from = omega (arith, t.from); below = omega (arith, t.below); stands = t.stands ∙ ap (λ q. get_or ys q 0) (sym e) ∙ sym (within xs ys (a - s) (b - s) (omega arith) (omega (arith, t.from)) (omega (arith, t.below, t.from))) }

-- outside it the old ones
pub still_stands : (s a b y : ℕ) (xs ys : List ℕ) → s ≤ a → a + length ys ≤ s + length xs → (b < a) ⊎ (a + length ys ≤ b) → Stands s xs b y → Stands s (overwritten xs (a - s) ys) b y
still_stands s a b y xs ys h k (inl o) t =
    let l = length-overwritten xs ys (a - s) (omega arith) in
    record { from = t.from; below = omega (arith, t.below); stands = t.stands ∙ sym (before xs ys (a - s) (b - s) (omega arith) (omega (arith, t.from))) }
still_stands s a b y xs ys h k (inr o) t =
    let l = length-overwritten xs ys (a - s) (omega arith) in
    record { from = t.from; below = omega (arith, t.below); stands = t.stands ∙ sym (after xs ys (a - s) (b - s) (omega arith) (omega (arith, t.from))) }

-- and what stands there stood there
pub had_stood : (s a b y : ℕ) (xs ys : List ℕ) → s ≤ a → a + length ys ≤ s + length xs → (b < a) ⊎ (a + length ys ≤ b) → Stands s (overwritten xs (a - s) ys) b y → Stands s xs b y
had_stood s a b y xs ys h k (inl o) t =
    let l = length-overwritten xs ys (a - s) (omega arith) in
    record { from = t.from; below = omega (arith, t.below); stands = t.stands ∙ before xs ys (a - s) (b - s) (omega arith) (omega (arith, t.from)) }
had_stood s a b y xs ys h k (inr o) t =
    let l = length-overwritten xs ys (a - s) (omega arith) in
    record { from = t.from; below = omega (arith, t.below); stands = t.stands ∙ after xs ys (a - s) (b - s) (omega arith) (omega (arith, t.from)) }
