-- The items of a tag.
use Rattle.std.proofs.Common.{◌≡◌, ◌≢◌, ℕ, Bool, true, false, List, [], ◌∷◌, ◌++◌, ◌==◌, if◌then◌else◌, refl, sym, ap, ◌∙◌, eq-eqb, ne_eqb, length, ◌≤◌, suc, arith}
use mathlib.Core.List.{cons-ne-nil}
use Rattle.relay.specs.Ends.{items_of}

module _ {T : Type 0} where
  pub items_of-append : (tag : ℕ) (xs ys : List (ℕ × T)) → items_of tag (xs ++ ys) ≡ items_of tag xs ++ items_of tag ys
  items_of-append tag [] ys = refl
  items_of-append tag (x ∷ xs) ys = go (x.0 == tag) _ _ _ (items_of-append tag xs ys)
    where
      go : (b : Bool) (l m n : List T) → l ≡ m ++ n → (if b then x.1 ∷ l else l) ≡ (if b then x.1 ∷ m else m) ++ n
      go true l m n e = ap (λ k. x.1 ∷ k) e
      go false l m n e = e

  pub one_of : (tag : ℕ) (x : ℕ × T) → x.0 ≡ tag → items_of tag (x ∷ []) ≡ x.1 ∷ []
  one_of tag x same = ap (λ b. if b then x.1 ∷ [] else []) (eq-eqb x.0 tag same)

  pub none_of : (tag : ℕ) (x : ℕ × T) → x.0 ≢ tag → items_of tag (x ∷ []) ≡ []
  none_of tag x other = ap (λ b. if b then x.1 ∷ [] else []) (ne_eqb x.0 tag other)

  -- an item behind the others, of this tag
  pub items_of-same : (tag : ℕ) (xs : List (ℕ × T)) (x : ℕ × T) → x.0 ≡ tag → items_of tag (xs ++ x ∷ []) ≡ items_of tag xs ++ x.1 ∷ []
  items_of-same tag xs x same = items_of-append tag xs (x ∷ []) ∙ ap (λ l. items_of tag xs ++ l) (one_of tag x same)

  -- and of another
  pub items_of-other : (tag : ℕ) (xs : List (ℕ × T)) (x : ℕ × T) → x.0 ≢ tag → items_of tag (xs ++ x ∷ []) ≡ items_of tag xs
  items_of-other tag xs x other = items_of-append tag xs (x ∷ []) ∙ ap (λ l. items_of tag xs ++ l) (none_of tag x other) ∙ append_nil (items_of tag xs)
    where
      append_nil : (l : List T) → l ++ [] ≡ l
      append_nil [] = refl
      append_nil (y ∷ ys) = ap (λ l. y ∷ l) (append_nil ys)

  few_of : (tag : ℕ) (xs : List (ℕ × T)) → length (items_of tag xs) ≤ length xs
  few_of tag [] = omega arith
  few_of tag (x ∷ xs) = go (x.0 == tag) (few_of tag xs)
    where
      go : (b : Bool) → length (items_of tag xs) ≤ length xs → length (if b then x.1 ∷ items_of tag xs else items_of tag xs) ≤ suc (length xs)
      go true l = omega (arith, l)
      go false l = omega (arith, l)

  -- what was taken of a tag, and what lies there of it, as other words say it
  pub lacks : (tag tag' : ℕ) (taken taken' items : List (ℕ × T)) (given given' : List T) (count : ℕ) → tag ≡ tag' → taken ≡ taken' → given ≡ given'
      → length items ≡ count → items_of tag' (taken' ++ items) ≡ given' → (rest : List T) × (given ≡ items_of tag taken ++ rest) × (length rest ≤ count)
  lacks tag tag' taken taken' items given given' count e f h many k =
      let l = few_of tag items in (
        items_of tag items,
        h ∙ sym k ∙ (λ i. items_of (sym e i) (sym f i ++ items)) ∙ items_of-append tag taken items,
        omega (arith, l, many),
      )

  -- an item's tag has an item
  pub not_none : (tag : ℕ) (xs ys : List (ℕ × T)) (x : ℕ × T) → x.0 ≡ tag → items_of tag (xs ++ x ∷ ys) ≢ []
  not_none tag xs ys x same e = last (items_of tag xs) (sym (items_of-append tag xs (x ∷ ys) ∙ ap (λ l. items_of tag xs ++ l) (ap (λ b. if b then x.1 ∷ items_of tag ys else items_of tag ys) (eq-eqb x.0 tag same))) ∙ e)
    where
      last : (l : List T) → l ++ x.1 ∷ items_of tag ys ≢ []
      last [] h = cons-ne-nil _ _ h
      last (z ∷ zs) h = cons-ne-nil _ _ h
