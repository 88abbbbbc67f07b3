-- What is read of an array's members, one after another.
use Rattle.std.proofs.Common.{◌≡◌, ℕ, suc, zero, ◌+◌, ◌<◌, List, length, map, ◌++◌, ◌∷◌, [], take, drop, Some, None, refl, sym, ◌∙◌, ap, arith, get_or, sum_by}
use Rattle.std.specs.List.{flat_map, enumerate_from}
use Rattle.std.proofs.lemmas.List.{take_more, get_or-map, length-map}
use Rattle.std.proofs.lemmas.List.Sums.{sum_by-append}
use Rattle.toml.specs.Data.{Data}
use Rattle.xcp_memory.specs.declared.Class.{Class}
use Rattle.xcp_config.specs.declared.config_error.ConfigError.{ConfigError}
use Rattle.xcp_packet.specs.Rows.{first_holding}
use Rattle.xcp_config.specs.TableLayout.{File, Filed, filed, size_of}
use Rattle.xcp_config.specs.TableChecks.{checks_in, segment_checks}
use Rattle.xcp_config.proofs.CheckLemmas.{member_passed, member_failed}

-- an element of a list, as one of the list that it is seen as
pub record Seen {A B : Type 0} (f : A → B) (xs : List A) (i : ℕ) (x : A) : Type 0 where
  pub below : i < length (map f xs)
  pub is : f x ≡ get_or (map f xs) i (f x)

-- what an element of a list is seen as stands at the element's place in what the list is seen as
pub seen : {A B : Type 0} (f : A → B) (xs : List A) (i : ℕ) (x : A) → i < length xs → x ≡ get_or xs i x → Seen f xs i x
seen f xs i x h e = record { below = rw length-map h; is = ap f e ∙ sym (get_or-map f xs i x (f x) h) }

-- the front of a list, with one more element
pub take_here : {A : Type 0} (xs : List A) (i : ℕ) (x : A) → i < length xs → x ≡ get_or xs i x → take (i + 1) xs ≡ take i xs ++ x ∷ []
take_here xs i x h e = take_more xs i x h ∙ ap (λ y. take i xs ++ y ∷ []) (sym e)

-- the sum of a list's front, with one more element
pub sum_here : {A : Type 0} (f : A → ℕ) (xs : List A) (i : ℕ) (x : A) → i < length xs → x ≡ get_or xs i x → sum_by f (take (i + 1) xs) ≡ sum_by f (take i xs) + f x
sum_here f xs i x h e =
    let s = ap (sum_by f) (take_here xs i x h e) ∙ sum_by-append f (take i xs) (x ∷ []) in
    omega (arith, s)

map_push : {A B : Type 0} (f : A → B) (xs : List A) (x : A) → map f (xs ++ x ∷ []) ≡ map f xs ++ f x ∷ []
map_push f [] x = refl
map_push f (y ∷ ys) x = ap (λ zs. f y ∷ zs) (map_push f ys x)

-- one more part is what was read of one more member
pub one_more_read : {A B C : Type 0} (f : A → C) (g : B → C) (parts : List A) (xs : List B) (i : ℕ) (p : A) (x : B) → i < length xs → x ≡ get_or xs i x → map f parts ≡ map g (take i xs) → f p ≡ g x → map f (parts ++ p ∷ []) ≡ map g (take (i + 1) xs)
one_more_read f g parts xs i p x h e k q =
    map_push f parts p
    ∙ ap (λ zs. zs ++ f p ∷ []) k
    ∙ ap (λ z. map g (take i xs) ++ z ∷ []) q
    ∙ sym (ap (map g) (take_here xs i x h e) ∙ map_push g (take i xs) x)

-- one more segment passes its checks, or one fails
pub segment_passed : (class : Class) (ss : List Filed) (i total : ℕ) (s : Filed) → i < length ss → s ≡ get_or ss i s → total ≡ sum_by size_of (take i ss) → first_holding (segment_checks class i (total + size_of s) s) ≡ None → first_holding (flat_map (checks_in class ss) (enumerate_from i (drop i ss))) ≡ first_holding (flat_map (checks_in class ss) (enumerate_from (i + 1) (drop (i + 1) ss)))
segment_passed class ss i total s h e t k =
    let n : sum_by size_of (take (i + 1) ss) ≡ total + size_of s = sum_here size_of ss i s h e ∙ ap (λ m. m + size_of s) (sym t) in
    member_passed (checks_in class ss) ss i s h e (ap (λ m. first_holding (segment_checks class i m s)) n ∙ k)

-- where a check of a segment fails, its fault is the first of the segments from this one on
pub segment_failed : (class : Class) (ss : List Filed) (i total : ℕ) (s : Filed) (f : ConfigError) → i < length ss → s ≡ get_or ss i s → total ≡ sum_by size_of (take i ss) → first_holding (segment_checks class i (total + size_of s) s) ≡ Some f → first_holding (flat_map (checks_in class ss) (enumerate_from i (drop i ss))) ≡ Some f
segment_failed class ss i total s f h e t k =
    let n : sum_by size_of (take (i + 1) ss) ≡ total + size_of s = sum_here size_of ss i s h e ∙ ap (λ m. m + size_of s) (sym t) in
    member_failed (checks_in class ss) ss i s f h e (ap (λ m. first_holding (segment_checks class i m s)) n ∙ k)

-- as many tables with files as there are tables
pub length-filed : (files : List File) (ds : List Data) → length (filed files ds) ≡ length ds
length-filed files [] = refl
length-filed [] (d ∷ ds) = ap suc (length-filed [] ds)
length-filed (file ∷ files) (d ∷ ds) = ap suc (length-filed files ds)

-- a table with its file, at its place
pub record IsFiled (files : List File) (ds : List Data) (i : ℕ) (d : Data) : Type 0 where
  pub below : i < length (filed files ds)
  pub is : (get_or files i None, d) ≡ get_or (filed files ds) i (get_or files i None, d)

-- table i with the file of its number stands at place i of the tables with their files
pub filed_at : (files : List File) (ds : List Data) (i : ℕ) (d : Data) → i < length ds → d ≡ get_or ds i d → IsFiled files ds i d
filed_at files ds i d h e = record { below = rw (length-filed files ds) h; is = at files ds i d h e }
  where
    at : (files : List File) (ds : List Data) (i : ℕ) (d : Data) → i < length ds → d ≡ get_or ds i d → (get_or files i None, d) ≡ get_or (filed files ds) i (get_or files i None, d)
    at files [] i d h e = absurd (omega (arith, h))
    at [] (x ∷ ds) zero d h e = ap (λ (y : Data). (None, y)) e
    at [] (x ∷ ds) (suc i) d h e = at [] ds i d (omega (arith, h)) e
    at (file ∷ files) (x ∷ ds) zero d h e = ap (λ (y : Data). (file, y)) e
    at (file ∷ files) (x ∷ ds) (suc i) d h e = at files ds i d (omega (arith, h)) e
