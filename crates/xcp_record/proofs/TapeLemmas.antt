-- Strings that stand one behind another are read as they were written.
use Rattle.std.proofs.Common.{◌≡◌, ℕ, ◌+◌, ◌*◌, ◌/◌, ◌%◌, List, [], ◌∷◌, ◌++◌, length, take, drop, refl, sym, ap, ◌∙◌, arith, append-nil}
use Rattle.std.specs.List.{AllByRecursion}
use Rattle.std.proofs.Math.Nat.{mod-add-div'}
use Rattle.std.proofs.Math.Seq.{take-append_seam, drop-append_seam}
use Rattle.std.proofs.lemmas.List.Concat.{flat_map-append}
use Rattle.xcp_trace.specs.Tape.{behind_string, framed, spelt, string_at}

-- two lists whose fronts are equally long are the same in both parts
pub append_same : {A : Type 0} (a b c d : List A) → length a ≡ length b → a ++ c ≡ b ++ d → (a ≡ b) × (c ≡ d)
append_same a b c d n h = (
  sym (take-append_seam a c) ∙ ap (λ k. take k (a ++ c)) n ∙ ap (take (length b)) h ∙ take-append_seam b d,
  sym (drop-append_seam a c) ∙ ap (λ k. drop k (a ++ c)) n ∙ ap (drop (length b)) h ∙ drop-append_seam b d,
)

head_is : (n : ℕ) → n % 256 + n / 256 * 256 ≡ n
head_is n = mod-add-div' n 256

string-framed : (s more : List ℕ) → string_at (framed s ++ more) ≡ s
string-framed s more = rw (head_is (length s)) (take-append_seam s more)

behind-framed : (s more : List ℕ) → behind_string (framed s ++ more) ≡ more
behind-framed s more = rw (head_is (length s)) (drop-append_seam s more)

-- the first string of bytes is one alone
pub framed_same : (s t more rest : List ℕ) → framed s ++ more ≡ framed t ++ rest → (s ≡ t) × (more ≡ rest)
framed_same s t more rest h = (
  sym (string-framed s more) ∙ ap string_at h ∙ string-framed t rest,
  sym (behind-framed s more) ∙ ap behind_string h ∙ behind-framed t rest,
)

-- no string has no bytes
pub framed_some : (s more : List ℕ) → framed s ++ more ≡ [] → ⊥
framed_some s more h = let n = ap length h in absurd (omega (arith, n))

-- the strings of bytes are these alone
pub spelt_same : (ss ts : List (List ℕ)) → spelt ss ≡ spelt ts → ss ≡ ts
spelt_same [] [] h = refl
spelt_same [] (t ∷ ts) h = absurd (framed_some t (spelt ts) (sym h))
spelt_same (s ∷ ss) [] h = absurd (framed_some s (spelt ss) h)
spelt_same (s ∷ ss) (t ∷ ts) h =
    let both = framed_same s t (spelt ss) (spelt ts) h in
    ap (λ x. x ∷ ss) both.0 ∙ ap (λ xs. t ∷ xs) (spelt_same ss ts both.1)

-- strings with one more behind them
pub spelt_more : (ss : List (List ℕ)) (s : List ℕ) → spelt (ss ++ s ∷ []) ≡ spelt ss ++ framed s
spelt_more ss s = flat_map-append framed ss (s ∷ []) ∙ ap (λ b. spelt ss ++ b) (append-nil (framed s))

-- what holds of all strings, and of one more
pub all_more : {A : Type 0} (P : A → Type 0) (xs : List A) (x : A) → AllByRecursion P xs → P x → AllByRecursion P (xs ++ x ∷ [])
all_more P [] x all one = (one, tt)
all_more P (y ∷ xs) x all one = (all.0, all_more P xs x all.1 one)

-- a list of no elements
pub nothing : {A : Type 0} (l : List A) → length l ≡ 0 → l ≡ []
nothing [] h = refl
nothing (x ∷ xs) h = absurd (omega (arith, h))
