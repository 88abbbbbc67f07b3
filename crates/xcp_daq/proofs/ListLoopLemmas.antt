-- Lists whose elements a loop changes one by one.
use Rattle.std.proofs.Common.{◌≡◌, ℕ, zero, suc, ◌+◌, ◌<◌, List, [], ◌∷◌, ◌++◌, length, map, take, drop, get_or, slice_set, ap, ◌∙◌, refl, arith}
use Rattle.std.proofs.lemmas.Grind.{common_steps}

-- elements that were written as a slice
pub refilled : {X : Type 0} (n : ℕ) (new xs : List X) → n ≡ length xs → length new ≡ length xs → take n (new ++ drop (length new) xs) ≡ new
refilled {X} n new xs e h = grind (arith, common_steps)

changed : {X : Type 0} (f : X → X) (xs : List X) (i : ℕ) (d : X) → i < length xs → slice_set (map f (take i xs) ++ drop i xs) i (f (get_or (map f (take i xs) ++ drop i xs) i d)) ≡ map f (take (i + 1) xs) ++ drop (i + 1) xs
changed f [] i d h = absurd (omega arith)
changed f (x ∷ xs) zero d h = refl
changed f (x ∷ xs) (suc i) d h =
    let e : suc i + 1 ≡ suc (i + 1) = omega arith in
    rw e (ap (λ zs. f x ∷ zs) (changed f xs i d (omega arith)))

unchanged : {X : Type 0} (f : X → X) (xs : List X) (i : ℕ) (d : X) → i < length xs → get_or (map f (take i xs) ++ drop i xs) i d ≡ get_or xs i d
unchanged f [] i d h = absurd (omega arith)
unchanged f (x ∷ xs) zero d h = refl
unchanged f (x ∷ xs) (suc i) d h = unchanged f xs i d (omega arith)

-- one more element has changed
pub changed_more : {X : Type 0} (f : X → X) (xs ys : List X) (i : ℕ) (d y : X) → i < length xs → ys ≡ map f (take i xs) ++ drop i xs → y ≡ f (get_or ys i d) → slice_set ys i y ≡ map f (take (i + 1) xs) ++ drop (i + 1) xs
changed_more f xs ys i d y h so_far new = ap (λ zs. slice_set zs i y) so_far ∙ ap (λ z. slice_set (map f (take i xs) ++ drop i xs) i z) (new ∙ ap (λ zs. f (get_or zs i d)) so_far) ∙ changed f xs i d h

-- the next element hasn't changed yet
pub unchanged_next : {X : Type 0} (f : X → X) (xs ys : List X) (i : ℕ) (d : X) → i < length xs → ys ≡ map f (take i xs) ++ drop i xs → get_or ys i d ≡ get_or xs i d
unchanged_next f xs ys i d h so_far = ap (λ zs. get_or zs i d) so_far ∙ unchanged f xs i d h
