-- Receipts of several chapters, among others.
use Rattle.std.proofs.Common.{◌≡◌, ◌≢◌, ◌≤◌, ◌+◌, ◌||◌, ℕ, suc, Bool, true, false, List, [], ◌∷◌, ◌++◌, ◌==◌, refl, sym, ap, ◌∙◌, length, arith, rules, true≢false, eq-eqb, ne_eqb, if◌then◌else◌}
use Rattle.xcp_locked.specs.SettledReceipts.{among}
use Rattle.xcp_locked.specs.declared.receipt.Receipt.{Receipt}

-- a number is itself
pub same_number : (n : ℕ) → (n == n) ≡ true
same_number n = eq-eqb n n refl

-- where the test says no, the numbers differ
pub differ_from : (n m : ℕ) → (n == m) ≡ false → n ≢ m
differ_from n m e same = true≢false (sym (eq-eqb n m same) ∙ e)

-- and the other way round
pub other_way : (n m : ℕ) → (n == m) ≡ false → (m == n) ≡ false
other_way n m e = ne_eqb m n (λ same. differ_from n m e (sym same))

-- where a test says yes, the numbers are the same
pub same_by : (n m : ℕ) → (n == m) ≡ true → n ≡ m
same_by n m e = search rules

-- an `or` is false only where both sides are
pub either_false : (a b : Bool) → (a || b) ≡ false → (a ≡ false) × (b ≡ false)
either_false true b e = absurd (true≢false e)
either_false false b e = (refl, e)

-- receipts behind others
pub among_append : (p : ℕ → Bool) (xs ys : List Receipt) → among p (xs ++ ys) ≡ among p xs ++ among p ys
among_append p [] ys = refl
among_append p (x ∷ xs) ys = go (p x.chapter) (among_append p xs ys)
  where
    go : (b : Bool) → among p (xs ++ ys) ≡ among p xs ++ among p ys → (if b then x ∷ among p (xs ++ ys) else among p (xs ++ ys)) ≡ (if b then x ∷ among p xs else among p xs) ++ among p ys
    go true rest = ap (λ (l : List Receipt). x ∷ l) rest
    go false rest = rest

-- tests that say the same
pub among_same : (p q : ℕ → Bool) → ((n : ℕ) → p n ≡ q n) → (xs : List Receipt) → among p xs ≡ among q xs
among_same p q h [] = refl
among_same p q h (x ∷ xs) =
    ap (λ (b : Bool). if b then x ∷ among p xs else among p xs) (h x.chapter)
    ∙ ap (λ (l : List Receipt). if q x.chapter then x ∷ l else l) (among_same p q h xs)

-- where nothing passes
pub among_none : (p : ℕ → Bool) → ((n : ℕ) → p n ≡ false) → (xs : List Receipt) → among p xs ≡ []
among_none p h [] = refl
among_none p h (x ∷ xs) = ap (λ (b : Bool). if b then x ∷ among p xs else among p xs) (h x.chapter) ∙ among_none p h xs

-- no more than there are
pub among_few : (p : ℕ → Bool) (xs : List Receipt) → length (among p xs) ≤ length xs
among_few p [] = omega arith
among_few p (x ∷ xs) = go (p x.chapter) (among_few p xs)
  where
    go : (b : Bool) → length (among p xs) ≤ length xs → length (if b then x ∷ among p xs else among p xs) ≤ suc (length xs)
    go true few = omega (arith, few)
    go false few = omega (arith, few)

-- those of one chapter more
pub among_more : (p : ℕ → Bool) (d : ℕ) → p d ≡ false → (xs : List Receipt) → length (among (λ n. p n || (n == d)) xs) ≡ length (among p xs) + length (among (λ n. n == d) xs)
among_more p d isnt [] = refl
among_more p d isnt (x ∷ xs) = go (p x.chapter) refl (x.chapter == d) refl (among_more p d isnt xs)
  where
    go : (a : Bool) → p x.chapter ≡ a → (b : Bool) → (x.chapter == d) ≡ b → length (among (λ n. p n || (n == d)) xs) ≡ length (among p xs) + length (among (λ n. n == d) xs)
        → length (if a || b then x ∷ among (λ n. p n || (n == d)) xs else among (λ n. p n || (n == d)) xs) ≡ length (if a then x ∷ among p xs else among p xs) + length (if b then x ∷ among (λ n. n == d) xs else among (λ n. n == d) xs)
    go true pa true pb rest = absurd (true≢false (sym pa ∙ ap p (same_by x.chapter d pb) ∙ isnt))
    go true pa false pb rest = omega (arith, rest)
    go false pa true pb rest = omega (arith, rest)
    go false pa false pb rest = rest

-- where all pass, there are none that don't
pub among_all : (p : ℕ → Bool) (xs : List Receipt) → length (among p xs) ≡ length xs → (n : ℕ) → p n ≡ false → among (λ m. m == n) xs ≡ []
among_all p [] all n isnt = refl
among_all p (x ∷ xs) all n isnt = go (p x.chapter) refl (x.chapter == n) refl (λ l. among_all p xs l n isnt) all
  where
    go : (a : Bool) → p x.chapter ≡ a → (b : Bool) → (x.chapter == n) ≡ b → (length (among p xs) ≡ length xs → among (λ m. m == n) xs ≡ []) → length (if a then x ∷ among p xs else among p xs) ≡ suc (length xs) → (if b then x ∷ among (λ m. m == n) xs else among (λ m. m == n) xs) ≡ []
    go true pa true pb rest l = absurd (true≢false (sym pa ∙ ap p (same_by x.chapter n pb) ∙ isnt))
    go true pa false pb rest l = rest (omega (arith, l))
    go false pa b pb rest l = let few = among_few p xs in absurd (omega (arith, few, l))
