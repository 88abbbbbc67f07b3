-- Strings that stand one behind another are read as they were written.
use Rattle.std.proofs.Common.{◌≡◌, ◌≤◌, ℕ, zero, suc, ◌+◌, ◌-◌, ◌*◌, ◌/◌, ◌%◌, List, [], ◌∷◌, ◌++◌, length, refl, sym, ap, ◌∙◌, arith, append_assoc, append-nil}
use Rattle.std.proofs.Math.Nat.{mod-add-div'}
use Rattle.std.proofs.Math.Seq.{take-append_seam, drop-append_seam}
use Rattle.std.proofs.lemmas.List.{length-append}
use Rattle.std.proofs.lemmas.List.Concat.{flat_map-append}
use Rattle.xcp_trace.specs.Tape.{length_at, string_at, behind_string, strings_in, framed, spelt}

-- as many strings are read of bytes as are asked for
pub length-strings_in : (n : ℕ) (bytes : List ℕ) → length (strings_in n bytes) ≡ n
length-strings_in zero bytes = refl
length-strings_in (suc n) bytes = ap suc (length-strings_in n (behind_string bytes))

-- the length that stands before a string
head_is : (n : ℕ) → n % 256 + n / 256 * 256 ≡ n
head_is n = mod-add-div' n 256

string-framed : (s more : List ℕ) → string_at (framed s ++ more) ≡ s
string-framed s more = rw (head_is (length s)) (take-append_seam s more)

-- the bytes behind a string at the head, written with its length, are those that follow it
pub behind-framed : (s more : List ℕ) → behind_string (framed s ++ more) ≡ more
behind-framed s more = rw (head_is (length s)) (drop-append_seam s more)

strings_in-spelt : (strings : List (List ℕ)) (more : List ℕ) → strings_in (length strings) (spelt strings ++ more) ≡ strings
strings_in-spelt [] more = refl
strings_in-spelt (s ∷ strings) more =
    let rest = spelt strings ++ more in
    let e : spelt (s ∷ strings) ++ more ≡ framed s ++ rest = append_assoc (framed s) (spelt strings) more in
    ap (λ (b : List ℕ). strings_in (suc (length strings)) b) e
    ∙ ap (λ (x : List ℕ). x ∷ strings_in (length strings) (behind_string (framed s ++ rest))) (string-framed s rest)
    ∙ ap (λ (b : List ℕ). s ∷ strings_in (length strings) b) (behind-framed s rest)
    ∙ ap (λ (xs : List (List ℕ)). s ∷ xs) (strings_in-spelt strings more)

spelt-behind : (bytes : List ℕ) (strings : List (List ℕ)) (s : List ℕ) → spelt strings ≡ bytes → spelt (strings ++ s ∷ []) ≡ bytes ++ framed s
spelt-behind bytes strings s h =
    flat_map-append framed strings (s ∷ []) ∙ ap (λ (b : List ℕ). spelt strings ++ b) (append-nil (framed s)) ∙ ap (λ (b : List ℕ). b ++ framed s) h

-- one more string behind those that are there
pub one_more : (n : ℕ) (bytes s : List ℕ) → spelt (strings_in n bytes) ≡ bytes → strings_in (n + 1) (bytes ++ framed s) ≡ strings_in n bytes ++ s ∷ []
one_more n bytes s h =
    let strings = strings_in n bytes in
    let number : length (strings ++ s ∷ []) ≡ n + 1 = length-append strings (s ∷ []) ∙ ap (λ (k : ℕ). k + 1) (length-strings_in n bytes) in
    let joined : spelt (strings ++ s ∷ []) ++ [] ≡ bytes ++ framed s = append-nil (spelt (strings ++ s ∷ [])) ∙ spelt-behind bytes strings s h in
    sym (ap (λ (k : ℕ). strings_in k (bytes ++ framed s)) number) ∙ sym (ap (λ (b : List ℕ). strings_in (length (strings ++ s ∷ [])) b) joined) ∙ strings_in-spelt (strings ++ s ∷ []) []

-- bytes that are n whole strings are n + 1 with one more string written behind them
pub spelt-one_more : (n : ℕ) (bytes s : List ℕ) → spelt (strings_in n bytes) ≡ bytes → spelt (strings_in (n + 1) (bytes ++ framed s)) ≡ bytes ++ framed s
spelt-one_more n bytes s h = ap spelt (one_more n bytes s h) ∙ spelt-behind bytes (strings_in n bytes) s h

-- each string takes two bytes at least
pub at_least : (strings : List (List ℕ)) → 2 * length strings ≤ length (spelt strings)
at_least [] = omega arith
at_least (s ∷ strings) =
    let h = at_least strings in
    let e = length-append s (spelt strings) in
    omega (arith, h, e)

-- as many strings fit as there are bytes
pub count_fits : (n : ℕ) (bytes : List ℕ) → spelt (strings_in n bytes) ≡ bytes → 2 * n ≤ length bytes
count_fits n bytes h =
    let a = at_least (strings_in n bytes) in
    let b = length-strings_in n bytes in
    let e : length (spelt (strings_in n bytes)) ≡ length bytes = ap (λ (b : List ℕ). length b) h in
    omega (arith, a, b, e)

-- the first string is all there
whole : (n : ℕ) (bytes : List ℕ) → spelt (strings_in (suc n) bytes) ≡ bytes → 2 + length_at bytes ≤ length bytes
whole n bytes h =
    let s = string_at bytes in
    let rest = spelt (strings_in n (behind_string bytes)) in
    let a : length s ≡ length_at bytes = sym (head_is (length s)) ∙ ap length_at h in
    let b : length (framed s ++ rest) ≡ length bytes = ap (λ (b : List ℕ). length b) h in
    let d : length (framed s ++ rest) ≡ length (framed s) + length rest = length-append (framed s) rest in
    omega (arith, a, b, d)

-- without the first string
without : (n : ℕ) (bytes : List ℕ) → spelt (strings_in (suc n) bytes) ≡ bytes → spelt (strings_in n (behind_string bytes)) ≡ behind_string bytes
without n bytes h =
    sym (behind-framed (string_at bytes) (spelt (strings_in n (behind_string bytes)))) ∙ ap behind_string h

-- of bytes that are whole strings, one or more, the first string is all there
pub first_is_whole : (n : ℕ) (bytes : List ℕ) → (n ≡ 0 → ⊥) → spelt (strings_in n bytes) ≡ bytes → 2 + length_at bytes ≤ length bytes
first_is_whole zero bytes some h = absurd (some refl)
first_is_whole (suc n) bytes some h = whole n bytes h

-- bytes that are whole strings, one or more, are one string fewer behind the first one
pub without_first : (n : ℕ) (bytes : List ℕ) → (n ≡ 0 → ⊥) → spelt (strings_in n bytes) ≡ bytes → spelt (strings_in (n - 1) (behind_string bytes)) ≡ behind_string bytes
without_first zero bytes some h = absurd (some refl)
without_first (suc n) bytes some h = let e : suc n - 1 ≡ n = omega arith in rw e (without n bytes h)

-- one or more strings of bytes are the one at the head, and then those behind it
pub first_of : (n : ℕ) (bytes : List ℕ) → (n ≡ 0 → ⊥) → strings_in n bytes ≡ string_at bytes ∷ strings_in (n - 1) (behind_string bytes)
first_of zero bytes some = absurd (some refl)
first_of (suc n) bytes some = let e : suc n - 1 ≡ n = omega arith in rw e refl

-- strings are read again off their bytes
pub strings_again : (strings : List (List ℕ)) → strings_in (length strings) (spelt strings) ≡ strings
strings_again strings = ap (λ (b : List ℕ). strings_in (length strings) b) (sym (append-nil (spelt strings))) ∙ strings_in-spelt strings []
