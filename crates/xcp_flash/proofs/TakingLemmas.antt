-- Pages that are taken one by one in place of others.
use Rattle.std.proofs.Common.{◌≡◌, ◌<◌, ◌≤◌, ℕ, ◌+◌, suc, List, [], ◌∷◌, ◌++◌, length, take, drop, get_or, refl, sym, ap, ◌∙◌, arith, add-one, append_assoc, length-take-le, take-take}
use Rattle.std.specs.Prelude.{Bool, true, false, ◌≢◌, MatchBool}
use Rattle.std.proofs.Math.ListN.{set}
use Rattle.std.proofs.Math.Seq.{drop-cons}
use Rattle.std.proofs.lemmas.List.{get_or-map, get_or-take, take_more}
use Rattle.xcp_memory.specs.Layout.{LayoutValue}
use Rattle.xcp_memory.specs.Pages.{no_segment}
use Rattle.xcp_flash.specs.References.{AreReferences}
use Rattle.xcp_flash.proofs.LayoutLemmas.{many}
use Rattle.xcp_flash.proofs.PageLemmas.{size_at}

at_seam : {A : Type 0} (xs : List A) (y : A) (ys : List A) (d : A) → get_or (xs ++ y ∷ ys) (length xs) d ≡ y
at_seam [] y ys d = refl
at_seam (x ∷ xs) y ys d = at_seam xs y ys d

set_seam : {A : Type 0} (xs : List A) (y : A) (ys : List A) (z : A) → set (xs ++ y ∷ ys) (length xs) z ≡ xs ++ z ∷ ys
set_seam [] y ys z = refl
set_seam (x ∷ xs) y ys z = ap (λ l. x ∷ l) (set_seam xs y ys z)

-- the next page is still that of before
pub still : {A : Type 0} (new old now : List A) (i : ℕ) (d : A) → i ≤ length new → i < length old → now ≡ take i new ++ drop i old → get_or now i d ≡ get_or old i d
still new old now i d front there is =
    let long : length (take i new) ≡ i = length-take-le i new front in
    ap (λ xs. get_or xs i d) (is ∙ ap (λ xs. take i new ++ xs) (drop-cons old i d there))
    ∙ ap (λ k. get_or (take i new ++ get_or old i d ∷ drop (suc i) old) k d) (sym long)
    ∙ at_seam (take i new) (get_or old i d) (drop (suc i) old) d

-- one page more is taken
pub taken_more : {A : Type 0} (new old now : List A) (i : ℕ) (d x : A) → i < length new → i < length old → now ≡ take i new ++ drop i old → x ≡ get_or new i d
    → set now i x ≡ take (i + 1) new ++ drop (i + 1) old
taken_more new old now i d x front there is same =
    let long : length (take i new) ≡ i = length-take-le i new (omega (arith, front)) in
    ap (λ xs. set xs i x) (is ∙ ap (λ xs. take i new ++ xs) (drop-cons old i d there))
    ∙ ap (λ k. set (take i new ++ get_or old i d ∷ drop (suc i) old) k x) (sym long)
    ∙ set_seam (take i new) (get_or old i d) (drop (suc i) old) x
    ∙ ap (λ y. take i new ++ y ∷ drop (suc i) old) same
    ∙ sym (append_assoc (take i new) (get_or new i d ∷ []) (drop (suc i) old))
    ∙ ap (λ xs. xs ++ drop (suc i) old) (sym (take_more new i d front))
    ∙ ap (λ k. take (i + 1) new ++ drop k old) (sym (add-one i))

-- as far as they are compared
pub same_more : {A : Type 0} (xs ys : List A) (i : ℕ) (d : A) → i < length xs → i < length ys → get_or xs i d ≡ get_or ys i d → take i xs ≡ take i ys → take (i + 1) xs ≡ take (i + 1) ys
same_more xs ys i d a b last front = take_more xs i d a ∙ ap (λ z. z ++ get_or xs i d ∷ []) front ∙ ap (λ z. take i ys ++ z ∷ []) last ∙ sym (take_more ys i d b)

-- lists whose first i + 1 elements are the same have the same first i elements
pub same_front : {A : Type 0} (xs ys : List A) (i : ℕ) → take (i + 1) xs ≡ take (i + 1) ys → take i xs ≡ take i ys
same_front xs ys i h = sym (take-take i (i + 1) xs (omega arith)) ∙ ap (take i) h ∙ take-take i (i + 1) ys (omega arith)

-- lists whose first i + 1 elements are the same have the same element i
pub same_last : {A : Type 0} (xs ys : List A) (i : ℕ) (d : A) → take (i + 1) xs ≡ take (i + 1) ys → get_or xs i d ≡ get_or ys i d
same_last xs ys i d h = sym (get_or-take (i + 1) xs i d (omega arith)) ∙ ap (λ z. get_or z i d) h ∙ get_or-take (i + 1) ys i d (omega arith)

-- what was told still holds where the next pages are the same
pub told_more : {A : Type 0} (xs ys : List A) (i : ℕ) (d : A) (b : Bool) → i < length xs → i < length ys → get_or xs i d ≡ get_or ys i d
    → MatchBool b (take i xs ≢ take i ys) (take i xs ≡ take i ys) → MatchBool b (take (i + 1) xs ≢ take (i + 1) ys) (take (i + 1) xs ≡ take (i + 1) ys)
told_more xs ys i d true a c last h = λ same. h (same_front xs ys i same)
told_more xs ys i d false a c last h = same_more xs ys i d a c last h

-- a page of a layout's has its segment's size
pub page_size : (pages : List (List ℕ)) (l : LayoutValue) (i : ℕ) (d : List ℕ) → AreReferences pages l → i < length pages → length (get_or pages i d) ≡ length (get_or l.segments i no_segment).bytes
page_size pages l i d sized there =
    let within : i < length l.segments = let e = many pages l sized in omega (arith, e, there) in
    sym (get_or-map (λ (p : List ℕ). length p) pages i d 0 there) ∙ ap (λ (ns : List ℕ). get_or ns i 0) sized ∙ size_at l.segments i within
