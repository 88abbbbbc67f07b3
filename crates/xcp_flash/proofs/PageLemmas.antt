-- Pages that stand one behind the other are read as they were written.
use Rattle.std.proofs.Common.{◌≡◌, ◌<◌, ℕ, zero, suc, ◌+◌, List, [], ◌∷◌, ◌++◌, length, map, take, drop, get_or, refl, sym, ap, ◌∙◌, arith, append_assoc, append-nil, take-append-drop, add-one, length-append}
use Rattle.std.specs.List.{flat_map}
use Rattle.std.proofs.Math.Seq.{drop-cons}
use Rattle.std.proofs.lemmas.List.{get_or-map, map-append, take_more}
use Rattle.std.proofs.lemmas.List.Concat.{flat_map-append}
use Rattle.xcp_memory.specs.Layout.{SegmentValue}
use Rattle.xcp_memory.specs.Pages.{no_segment}
use Rattle.xcp_flash.specs.FlashFile.{page_in}
use Rattle.xcp_flash.proofs.FileLemmas.{append_same, page_length, same_page}

abbrev pub sizes : List (List ℕ) → List ℕ
sizes pages = map (λ page. length page) pages

-- the bytes of equally long pages are the same where they begin the same bytes
pub one_page : (p q more rest : List ℕ) → length p ≡ length q → page_in p ++ more ≡ page_in q ++ rest → (p ≡ q) × (more ≡ rest)
one_page p q more rest n h =
    let long : length (page_in p) ≡ length (page_in q) = page_length p ∙ ap (λ k. 4 + k) n ∙ sym (page_length q) in
    let both = append_same (page_in p) (page_in q) more rest long h in
    (same_page p q both.0, both.1)

-- one page more
pub sizes_more : (all : List ℕ) (pages : List (List ℕ)) (i : ℕ) (page : List ℕ) → i < length all → sizes pages ≡ take i all → length page ≡ get_or all i 0 → sizes (pages ++ page ∷ []) ≡ take (i + 1) all
sizes_more all pages i page there so_far long =
    map-append (λ (p : List ℕ). length p) pages (page ∷ [])
    ∙ ap (λ (xs : List ℕ). xs ++ length page ∷ []) so_far
    ∙ ap (λ (n : ℕ). take i all ++ n ∷ []) long
    ∙ sym (take_more all i 0 there)

-- where one more page stands behind the pages, the bytes begin with them and this page
pub bytes_more : (pages : List (List ℕ)) (page more rest bytes : List ℕ) → bytes ≡ flat_map page_in pages ++ rest → rest ≡ page_in page ++ more → bytes ≡ flat_map page_in (pages ++ page ∷ []) ++ more
bytes_more pages page more rest bytes whole next =
    let front : flat_map page_in (pages ++ page ∷ []) ≡ flat_map page_in pages ++ page_in page = flat_map-append page_in pages (page ∷ []) ∙ ap (λ (b : List ℕ). flat_map page_in pages ++ b) (append-nil (page_in page)) in
    whole ∙ ap (λ (b : List ℕ). flat_map page_in pages ++ b) next ∙ sym (append_assoc (flat_map page_in pages) (page_in page) more) ∙ ap (λ (b : List ℕ). b ++ more) (sym front)

-- What stands behind some of the pages: the others.
pub record Left (all : List ℕ) (i : ℕ) (rest more : List ℕ) : Type 0 where
  pub tail : List (List ℕ)
  pub sized : sizes tail ≡ drop i all
  pub whole : rest ≡ flat_map page_in tail ++ more

-- behind pages of the first i sizes, bytes that begin with pages of all sizes go on with pages of the other sizes
pub left_behind : (done pages : List (List ℕ)) (all : List ℕ) (i : ℕ) (rest more : List ℕ) → sizes done ≡ take i all → sizes pages ≡ all
    → flat_map page_in done ++ rest ≡ flat_map page_in pages ++ more → Left all i rest more
left_behind [] pages all i rest more front whole h =
    let e : all ≡ drop i all = sym (take-append-drop i all) ∙ ap (λ (xs : List ℕ). xs ++ drop i all) (sym front) in
    record { tail = pages; sized = whole ∙ e; whole = h }
left_behind (d ∷ done) pages all zero rest more front whole h = cc
left_behind (d ∷ done) pages [] (suc i) rest more front whole h = cc
left_behind (d ∷ done) [] (n ∷ all) (suc i) rest more front whole h = cc
left_behind (d ∷ done) (p ∷ pages) (n ∷ all) (suc i) rest more front whole h =
    let long : length d ≡ length p = cc in
    let sized : sizes done ≡ take i all = cc in
    let others : sizes pages ≡ all = cc in
    let bytes : page_in d ++ (flat_map page_in done ++ rest) ≡ page_in p ++ (flat_map page_in pages ++ more) =
    sym (append_assoc (page_in d) (flat_map page_in done) rest) ∙ h ∙ append_assoc (page_in p) (flat_map page_in pages) more in
    let found = left_behind done pages all i rest more sized others (one_page d p _ _ long bytes).1 in
    record { tail = found.tail; sized = found.sized; whole = found.whole }

-- The first of the pages that are left, and the others.
pub record Next (all : List ℕ) (i : ℕ) (tail : List (List ℕ)) (rest more : List ℕ) : Type 0 where
  pub page : List ℕ
  pub others : List (List ℕ)
  pub is : tail ≡ page ∷ others
  pub long : length page ≡ get_or all i 0
  pub sized : sizes others ≡ drop (i + 1) all
  pub whole : rest ≡ page_in page ++ (flat_map page_in others ++ more)

-- bytes that begin with pages of the sizes from i on, i below how many, begin with one of size i, and then the others
pub next_page : (all : List ℕ) (i : ℕ) (tail : List (List ℕ)) (rest more : List ℕ) → i < length all → sizes tail ≡ drop i all → rest ≡ flat_map page_in tail ++ more → Next all i tail rest more
next_page all i [] rest more there sized whole = let e = drop-cons all i 0 there in cc
next_page all i (page ∷ others) rest more there sized whole =
    let e = drop-cons all i 0 there in
    let both : length page ∷ sizes others ≡ get_or all i 0 ∷ drop (suc i) all = sized ∙ e in
    let step : drop (suc i) all ≡ drop (i + 1) all = ap (λ (k : ℕ). drop k all) (sym (add-one i)) in
    let second : sizes others ≡ drop (suc i) all = cc in
    record {
      page = page;
      others = others;
      is = refl;
      long = cc;
      sized = second ∙ step;
      whole = whole ∙ append_assoc (page_in page) (flat_map page_in others) more;
    }

-- pages of the same sizes with which the same bytes begin are the same
pub same_pages : (pages others : List (List ℕ)) (more rest : List ℕ) → sizes pages ≡ sizes others → flat_map page_in pages ++ more ≡ flat_map page_in others ++ rest → (pages ≡ others) × (more ≡ rest)
same_pages [] [] more rest sized h = (refl, h)
same_pages [] (q ∷ others) more rest sized h = cc
same_pages (p ∷ pages) [] more rest sized h = cc
same_pages (p ∷ pages) (q ∷ others) more rest sized h =
    let long : length p ≡ length q = cc in
    let tails : sizes pages ≡ sizes others = cc in
    let bytes : page_in p ++ (flat_map page_in pages ++ more) ≡ page_in q ++ (flat_map page_in others ++ rest) =
    sym (append_assoc (page_in p) (flat_map page_in pages) more) ∙ h ∙ append_assoc (page_in q) (flat_map page_in others) rest in
    let first = one_page p q _ _ long bytes in
    let both = same_pages pages others more rest tails first.1 in
    (ap (λ (x : List ℕ). x ∷ pages) first.0 ∙ ap (λ (xs : List (List ℕ)). q ∷ xs) both.0, both.1)

-- the size of a segment
pub size_at : (segments : List SegmentValue) (i : ℕ) → i < length segments → get_or (map (λ (s : SegmentValue). length s.bytes) segments) i 0 ≡ length (get_or segments i no_segment).bytes
size_at segments i there = get_or-map (λ (s : SegmentValue). length s.bytes) segments i no_segment 0 there

-- no pages have no sizes
pub none_left : (pages : List (List ℕ)) → sizes pages ≡ [] → pages ≡ []
none_left [] h = refl
none_left (p ∷ pages) h = cc

-- pages of the same sizes take as many bytes
pub same_length : (pages others : List (List ℕ)) → sizes pages ≡ sizes others → length (flat_map page_in pages) ≡ length (flat_map page_in others)
same_length [] [] sized = refl
same_length [] (q ∷ others) sized = cc
same_length (p ∷ pages) [] sized = cc
same_length (p ∷ pages) (q ∷ others) sized =
    let first : length p ≡ length q = cc in
    let tails : sizes pages ≡ sizes others = cc in
    let rest = same_length pages others tails in
    let a = length-append (page_in p) (flat_map page_in pages) in
    let b = length-append (page_in q) (flat_map page_in others) in
    let m = page_length p in
    let n = page_length q in
    omega (arith, a, b, m, n, rest, first)
