-- Lists that belong together, and loops over what is handed over.
use Rattle.std.proofs.Common.{◌≡◌, ℕ, suc, ◌+◌, ◌<◌, List, [], ◌∷◌, ◌++◌, length, map, slice_index_or, refl, sym, ap, ◌∙◌, subst, append_assoc, append-nil, arith}
use Rattle.std.specs.Prelude.{All, Option, Some, None}
use Rattle.std.specs.List.{AllZip}
use Rattle.std.proofs.lemmas.List.Elements.{All-append, All-cons, All-nil}
use Rattle.std.specs.Option.{option_or}
use Rattle.xcp_locked.specs.PairedLists.{EachFrom}

-- one more of what is handed over was taken
pub turn : {X : Type 0} (done rest more first : List X) (x : X) → done ++ rest ≡ first → rest ≡ x ∷ more → (done ++ x ∷ []) ++ more ≡ first
turn done rest more first x was steps = append_assoc done (x ∷ []) more ∙ (ap (λ z. done ++ z) (sym steps) ∙ was)

nothing_left : {X : Type 0} (l : List X) → length l ≡ 0 → l ≡ []
nothing_left [] h = refl
nothing_left (x ∷ xs) h = absurd (omega arith)

-- all was taken
pub finish : {X : Type 0} (done rest first given : List X) (n : ℕ) → done ++ rest ≡ first → n ≡ length rest → n ≡ 0 → first ≡ given → done ≡ given
finish done rest first given n was len none is = sym (append-nil done) ∙ (ap (λ z. done ++ z) (sym (nothing_left rest (sym len ∙ none))) ∙ (was ∙ is))

-- lists that belong together still do with one more element each, where these two are related at their place
pub each_more : {A B : Type 0} (R : ℕ → A → B → Type 0) (k : ℕ) (xs : List A) (ys : List B) (x : A) (y : B) → EachFrom R k xs ys → R (k + length xs) x y → EachFrom R k (xs ++ x ∷ []) (ys ++ y ∷ [])
each_more R k [] [] x y h r = let e : k + 0 ≡ k = omega arith in (subst (λ n. R n x y) e r, tt)
each_more R k (a ∷ xs) (b ∷ ys) x y h r = let e : k + length (a ∷ xs) ≡ (k + 1) + length xs = omega arith in (h.0, each_more R (k + 1) xs ys x y h.1 (subst (λ n. R n x y) e r))
each_more R k [] (b ∷ ys) x y h r = absurd h
each_more R k (a ∷ xs) [] x y h r = absurd h

-- lists as long as each other belong together where the two elements at each place are related
pub zip_of : {A B : Type 0} (R : A → B → Type 0) (xs : List A) (ys : List B) → length ys ≡ length xs → ((i : ℕ) (x : A) (y : B) → i < length xs → R (slice_index_or xs i x) (slice_index_or ys i y)) → AllZip R xs ys
zip_of R [] [] l h = tt
zip_of R (x ∷ xs) (y ∷ ys) l h = (h 0 x y (omega arith), zip_of R xs ys (omega (arith, l)) (λ i a b low. h (suc i) a b (omega (arith, low))))
zip_of R [] (y ∷ ys) l h = absurd (omega (arith, l))
zip_of R (x ∷ xs) [] l h = absurd (omega (arith, l))

-- with one more element each, where these two are related
pub zip_more : {A B : Type 0} (R : A → B → Type 0) (xs : List A) (ys : List B) (x : A) (y : B) → AllZip R xs ys → R x y → AllZip R (xs ++ x ∷ []) (ys ++ y ∷ [])
zip_more R [] [] x y h r = (r, tt)
zip_more R (a ∷ xs) (b ∷ ys) x y h r = (h.0, zip_more R xs ys x y h.1 r)
zip_more R [] (b ∷ ys) x y h r = absurd h
zip_more R (a ∷ xs) [] x y h r = absurd h

-- lists of which each place says the same belong together at whichever places
pub zip_from : {A B : Type 0} (R : A → B → Type 0) (k : ℕ) (xs : List A) (ys : List B) → AllZip R xs ys → EachFrom (λ n x y. R x y) k xs ys
zip_from R k [] [] h = tt
zip_from R k (x ∷ xs) (y ∷ ys) h = (h.0, zip_from R (k + 1) xs ys h.1)
zip_from R k [] (y ∷ ys) h = absurd h
zip_from R k (x ∷ xs) [] h = absurd h

-- two lists belong together through one between them, where the relations at each place give theirs
pub zip_through : {A B C : Type 0} (R : A → B → Type 0) (S : B → C → Type 0) (T : A → C → Type 0) → ((a : A) (b : B) (c : C) → R a b → S b c → T a c) → (xs : List A) (ys : List B) (zs : List C) → AllZip R xs ys → AllZip S ys zs → AllZip T xs zs
zip_through R S T f [] [] [] r s = tt
zip_through R S T f [] [] (z ∷ zs) r s = absurd s
zip_through R S T f [] (y ∷ ys) zs r s = absurd r
zip_through R S T f (x ∷ xs) [] zs r s = absurd r
zip_through R S T f (x ∷ xs) (y ∷ ys) [] r s = absurd s
zip_through R S T f (x ∷ xs) (y ∷ ys) (z ∷ zs) r s = (f x y z r.0 s.0, zip_through R S T f xs ys zs r.1 s.1)

-- the same where the first relation is of the place
pub each_through : {A B C : Type 0} (R : ℕ → A → B → Type 0) (S : B → C → Type 0) (T : ℕ → A → C → Type 0) → ((n : ℕ) (a : A) (b : B) (c : C) → R n a b → S b c → T n a c) → (k : ℕ) (xs : List A) (ys : List B) (zs : List C) → EachFrom R k xs ys → AllZip S ys zs → EachFrom T k xs zs
each_through R S T f k [] [] [] r s = tt
each_through R S T f k [] [] (z ∷ zs) r s = absurd s
each_through R S T f k [] (y ∷ ys) zs r s = absurd r
each_through R S T f k (x ∷ xs) [] zs r s = absurd r
each_through R S T f k (x ∷ xs) (y ∷ ys) [] r s = absurd s
each_through R S T f k (x ∷ xs) (y ∷ ys) (z ∷ zs) r s = (f k x y z r.0 s.0, each_through R S T f (k + 1) xs ys zs r.1 s.1)

-- lists that belong together are as long as each other
pub each_length : {A B : Type 0} (R : ℕ → A → B → Type 0) (k : ℕ) (xs : List A) (ys : List B) → EachFrom R k xs ys → length ys ≡ length xs
each_length R k [] [] h = refl
each_length R k (x ∷ xs) (y ∷ ys) h = let e = each_length R (k + 1) xs ys h.1 in omega (arith, e)
each_length R k [] (y ∷ ys) h = absurd h
each_length R k (x ∷ xs) [] h = absurd h

-- a list that is made of another one, element by element
map_snoc : {A B : Type 0} (f : A → B) (xs : List A) (x : A) → map f (xs ++ x ∷ []) ≡ map f xs ++ f x ∷ []
map_snoc f [] x = refl
map_snoc f (y ∷ xs) x = ap (λ z. f y ∷ z) (map_snoc f xs x)

-- a list that is made of another one still is where both are one element longer
pub map_more : {A B : Type 0} (f : A → B) (xs : List A) (x : A) (ys more : List B) → ys ≡ map f xs → more ≡ ys ++ f x ∷ [] → more ≡ map f (xs ++ x ∷ [])
map_more f xs x ys more was is = is ∙ (ap (λ z. z ++ f x ∷ []) was ∙ sym (map_snoc f xs x))

-- the same behind another list
pub map_behind : {A B : Type 0} (f : A → B) (front : List B) (xs : List A) (x : A) (ys more : List B) → ys ≡ front ++ map f xs → more ≡ ys ++ f x ∷ [] → more ≡ front ++ map f (xs ++ x ∷ [])
map_behind f front xs x ys more was is = is ∙ (ap (λ z. z ++ f x ∷ []) was ∙ (append_assoc front (map f xs) (f x ∷ []) ∙ ap (λ z. front ++ z) (sym (map_snoc f xs x))))

-- one more of the callers that are dealt out was taken
pub dealt_more : {A B : Type 0} (f : B → A) (taken more : List B) (b : B) (a : A) (rest left all : List A) → map f taken ++ rest ≡ all → rest ≡ a ∷ left → f b ≡ a → more ≡ taken ++ b ∷ [] → map f more ++ left ≡ all
dealt_more f taken more b a rest left all was steps is grown =
    ap (λ z. map f z ++ left) grown ∙ (ap (λ z. z ++ left) (map_snoc f taken b) ∙ (ap (λ z. (map f taken ++ z ∷ []) ++ left) is ∙ turn (map f taken) rest left all a was steps))

-- what was dealt in three turns, and what is left behind them
pub in_three_turns : {A : Type 0} (first second third left later last all given : List A) → first ++ later ≡ all → second ++ last ≡ later → third ++ left ≡ last → all ≡ given → given ≡ first ++ second ++ third ++ left
in_three_turns first second third left later last all given f s t is =
    sym is ∙ (sym f ∙ (ap (λ z. first ++ z) (sym s ∙ ap (λ z. second ++ z) (sym t)) ∙ (sym (append_assoc first second (third ++ left)) ∙ sym (append_assoc (first ++ second) third left))))

-- what is read off the first element, where there is one
abbrev pub first_of : {A B : Type 0} → (A → B) → List A → Option B
first_of f [] = None
first_of f (x ∷ xs) = Some (f x)

-- one more element stands behind the first
pub first_of-more : {A B : Type 0} (f : A → B) (xs : List A) (x : A) → option_or (first_of f xs) (Some (f x)) ≡ first_of f (xs ++ x ∷ [])
first_of-more f [] x = refl
first_of-more f (y ∷ xs) x = refl

-- what holds of all holds of one more
pub all_more : {A : Type 0} (P : A → Type 0) (xs more : List A) (x : A) → All P xs → P x → more ≡ xs ++ x ∷ [] → All P more
all_more P xs more x all one is = subst (λ z. All P z) (sym is) (All-append P xs (x ∷ []) all (All-cons P x [] one (All-nil P)))
