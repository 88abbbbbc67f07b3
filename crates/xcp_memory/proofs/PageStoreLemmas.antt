-- Pages that stand in one list of bytes, one after another.
use Rattle.std.proofs.Common.{◌≡◌, ℕ, ◌+◌, ◌*◌, ◌/◌, ◌<◌, ◌≤◌, List, [], ◌∷◌, ◌++◌, length, take, drop, replicate, get_or, slice_set, zero, suc, ap, sym, ◌∙◌, refl, arith, length-append, length-drop}
use Rattle.std.specs.List.{repeat, copy_within, flat_map}
use Rattle.std.proofs.lemmas.Grind.{elements, common_steps}
use Rattle.std.proofs.lemmas.List.{drop-append-le, drop-take, drop-drop, length-take, length-take-le, take-append-drop}
use Rattle.std.proofs.Math.Nat.{mul-le-mul_right, mul-div_cancel_left}
use Rattle.std.proofs.Math.Seq.{take-append_seam, drop-append_seam}
use Rattle.xcp_memory.specs.declared.page_set.PageSet.TheInside.{Inside}
use Rattle.xcp_memory.specs.Pages.{SegmentPages}
use Rattle.xcp_memory.specs.private.PageStore.{pages_in}
use Rattle.xcp_memory.specs.ComputedAccess.{overwritten}
use Rattle.xcp_memory.proofs.PageLemmas.{all_over}

-- there are as many as are asked for
length-pages_in : (n size : ℕ) (xs : List ℕ) → length (pages_in n size xs) ≡ n
length-pages_in zero size xs = refl
length-pages_in (suc n) size xs = ap suc (length-pages_in n size (drop size xs))

-- a write in the first page changes the first page alone
front_over : (xs ys : List ℕ) (place size : ℕ) → place + length ys ≤ size → size ≤ length xs → take size (overwritten xs place ys) ≡ overwritten (take size xs) place ys
front_over xs ys place size h k = grind (arith, elements)

rest_kept : (xs ys : List ℕ) (place size : ℕ) → place + length ys ≤ size → size ≤ length xs → drop size (overwritten xs place ys) ≡ drop size xs
rest_kept xs ys place size h k = grind (arith, elements)

-- and one behind it the others alone
front_kept : (xs ys : List ℕ) (place size : ℕ) → size + place + length ys ≤ length xs → take size (overwritten xs (size + place) ys) ≡ take size xs
front_kept xs ys place size h = grind (arith, elements)

rest_over : (xs ys : List ℕ) (place size : ℕ) → size + place + length ys ≤ length xs → drop size (overwritten xs (size + place) ys) ≡ overwritten (drop size xs) place ys
rest_over xs ys place size h =
    let front : size ≤ length (take (size + place) xs) = simp length-take (omega arith) in
    let behind : size + place + length ys ≡ size + (place + length ys) = omega arith in
    let split : size ≤ length (take (size + place) xs ++ ys) = simp length-append (omega arith) in
    drop-append-le size (take (size + place) xs ++ ys) (drop (size + place + length ys) xs) split
    ∙ ap (λ zs. zs ++ drop (size + place + length ys) xs) (drop-append-le size (take (size + place) xs) ys front)
    ∙ ap (λ zs. (zs ++ ys) ++ drop (size + place + length ys) xs) (drop-take size place xs)
    ∙ ap (λ zs. (take place (drop size xs) ++ ys) ++ zs) (ap (λ n. drop n xs) behind ∙ sym (drop-drop (place + length ys) size xs))

-- page i
page_in : (n size i : ℕ) (xs : List ℕ) → i < n → get_or (pages_in n size xs) i [] ≡ take size (drop (i * size) xs)
page_in zero size i xs h = absurd (omega arith)
page_in (suc n) size zero xs h = let at : 0 ≡ 0 * size = omega arith in ap (λ k. take size (drop k xs)) at
page_in (suc n) size (suc i) xs h =
    let at : size + i * size ≡ suc i * size = omega arith in
    page_in n size i (drop size xs) (omega arith) ∙ ap (take size) (drop-drop (i * size) size xs ∙ ap (λ k. drop k xs) at)

-- the pages after a write over a part of one of them
page_overwritten : (n size i place : ℕ) (xs ys : List ℕ) → i < n → place + length ys ≤ size → n * size ≤ length xs → pages_in n size (overwritten xs (i * size + place) ys) ≡ slice_set (pages_in n size xs) i (overwritten (get_or (pages_in n size xs) i []) place ys)
page_overwritten zero size i place xs ys h k l = absurd (omega arith)
page_overwritten (suc n) size zero place xs ys h k l =
    let at : 0 * size + place ≡ place = omega arith in
    let long : size ≤ length xs = omega arith in
    ap (λ p. pages_in (suc n) size (overwritten xs p ys)) at
    ∙ ap (λ zs. take size (overwritten xs place ys) ∷ pages_in n size zs) (rest_kept xs ys place size k long)
    ∙ ap (λ z. z ∷ pages_in n size (drop size xs)) (front_over xs ys place size k long)
page_overwritten (suc n) size (suc i) place xs ys h k l =
    let at : suc i * size + place ≡ size + (i * size + place) = omega arith in
    let room : size + (i * size + place) + length ys ≤ length xs = omega (arith, mul-le-mul_right {m = i + 1} {n = n} size (omega arith)) in
    let rest : n * size ≤ length (drop size xs) = omega (arith, length-drop size xs) in
    ap (λ p. pages_in (suc n) size (overwritten xs p ys)) at
    ∙ ap (λ z. z ∷ pages_in n size (drop size (overwritten xs (size + (i * size + place)) ys))) (front_kept xs ys (i * size + place) size room)
    ∙ ap (λ zs. take size xs ∷ pages_in n size zs) (rest_over xs ys (i * size + place) size room)
    ∙ ap (λ ps. take size xs ∷ ps) (page_overwritten n size i place (drop size xs) ys (omega arith) k rest)

-- a page has the size
page_long : (n size i : ℕ) (xs : List ℕ) → i < n → n * size ≤ length xs → length (get_or (pages_in n size xs) i []) ≡ size
page_long n size i xs h k =
    let room = mul-le-mul_right {m = i + 1} {n = n} size (omega arith) in
    ap length (page_in n size i xs h) ∙ length-take-le size (drop (i * size) xs) (omega (arith, room, length-drop (i * size) xs))

-- as many pages with the same bytes
pub repeated : (n : ℕ) (page : List ℕ) → pages_in n (length page) (repeat n page) ≡ replicate n page
repeated zero page = refl
repeated (suc n) page =
    ap (λ p. p ∷ pages_in n (length page) (drop (length page) (page ++ repeat n page))) (take-append_seam page (repeat n page))
    ∙ ap (λ xs. page ∷ pages_in n (length page) xs) (drop-append_seam page (repeat n page))
    ∙ ap (λ ps. page ∷ ps) (repeated n page)

-- bytes that are copied over others of the same list
copied : (xs : List ℕ) (from n to : ℕ) → from + n ≤ length xs → copy_within xs from (from + n) to ≡ overwritten xs to (take n (drop from xs))
copied xs from n to h = grind (arith, common_steps)

-- the pages that are seen, and the bytes in which they stand
pub record IsStored (n size : ℕ) (bytes : List ℕ) (s : SegmentPages) : Type 0 where
  pub pages : pages_in n size bytes ≡ s.pages
  pub long : length bytes ≡ n * size

-- so they do in each set of pages
pub stored_by : (i : Inside) (s : SegmentPages) → record { pages = pages_in i.count i.size i.bytes.items; ecu = i.ecu; xcp = i.xcp; freeze = i.freeze } ≡ s → length i.bytes.items ≡ i.count * i.size → IsStored i.count i.size i.bytes.items s
stored_by i s e h = record { pages = ap (λ (s : SegmentPages). s.pages) e; long = h }

-- there are as many as are stored
pub stored_count : {n size : ℕ} {bytes : List ℕ} {s : SegmentPages} → IsStored n size bytes s → n ≡ length s.pages
stored_count {n} {size} {bytes} {s} h = sym (length-pages_in n size bytes) ∙ ap length h.pages

-- a page ends inside the bytes
pub stored_room : {n size : ℕ} {bytes : List ℕ} {s : SegmentPages} (i : ℕ) → IsStored n size bytes s → i < length s.pages → i * size + size ≤ length bytes
stored_room {n} {size} {bytes} {s} i h k = omega (arith, h.long, mul-le-mul_right {m = i + 1} {n = n} size (omega (arith, stored_count h)))

-- what is read of a page
pub stored_page : {n size : ℕ} {bytes : List ℕ} {s : SegmentPages} (i : ℕ) → IsStored n size bytes s → i < length s.pages → take size (drop (i * size) bytes) ≡ get_or s.pages i []
stored_page {n} {size} {bytes} {s} i h k =
    sym (page_in n size i bytes (omega (arith, stored_count h))) ∙ ap (λ ps. get_or ps i []) h.pages

-- a page's bytes are as many as the size
pub stored_size : {n size : ℕ} {bytes : List ℕ} {s : SegmentPages} (i : ℕ) → IsStored n size bytes s → i < length s.pages → length (get_or s.pages i []) ≡ size
stored_size {n} {size} {bytes} {s} i h k =
    ap (λ ps. length (get_or ps i [])) (sym h.pages) ∙ page_long n size i bytes (omega (arith, stored_count h)) (omega (arith, h.long))

-- the pages after a write over a part of one
pub stored_put : {n size : ℕ} {bytes : List ℕ} {s : SegmentPages} (i place : ℕ) (ys : List ℕ) → IsStored n size bytes s → i < length s.pages → place + length ys ≤ length (get_or s.pages i []) → pages_in n size (overwritten bytes (i * size + place) ys) ≡ slice_set s.pages i (overwritten (get_or s.pages i []) place ys)
stored_put {n} {size} {bytes} {s} i place ys h k l =
    page_overwritten n size i place bytes ys (omega (arith, stored_count h)) (omega (arith, stored_size i h k)) (omega (arith, h.long))
    ∙ ap (λ ps. slice_set ps i (overwritten (get_or ps i []) place ys)) h.pages

-- the pages after the copy of one over another
pub stored_copy : {n size : ℕ} {bytes : List ℕ} {s : SegmentPages} (source target : ℕ) → IsStored n size bytes s → source < length s.pages → target < length s.pages → pages_in n size (copy_within bytes (source * size) (source * size + size) (target * size)) ≡ slice_set s.pages target (get_or s.pages source [])
stored_copy {n} {size} {bytes} {s} source target h k l =
    let page = get_or s.pages source [] in
    let same : length page ≡ length (get_or s.pages target []) = stored_size source h k ∙ sym (stored_size target h l) in
    let at : target * size ≡ target * size + 0 = omega arith in
    ap (pages_in n size) (copied bytes (source * size) size (target * size) (stored_room source h k) ∙ ap (overwritten bytes (target * size)) (stored_page source h k))
    ∙ ap (λ p. pages_in n size (overwritten bytes p page)) at
    ∙ stored_put target 0 page h l (omega arith)
    ∙ ap (slice_set s.pages target) (all_over (get_or s.pages target []) page same)

-- a segment of which nothing but the pages changes
pub with_pages : (s t : SegmentPages) (ps qs : List (List ℕ)) → t ≡ s → ps ≡ qs → (let r : SegmentPages = record t { pages = ps } in r) ≡ (let r : SegmentPages = record s { pages = qs } in r)
with_pages s t ps qs e f =
    ap (λ (t : SegmentPages). let r : SegmentPages = record t { pages = ps } in r) e
    ∙ ap (λ (qs : List (List ℕ)). let r : SegmentPages = record s { pages = qs } in r) f

-- the pages, one after another, are the bytes
joined_again : (n size : ℕ) (xs : List ℕ) → length xs ≡ n * size → flat_map (λ (p : List ℕ). p) (pages_in n size xs) ≡ xs
joined_again zero size [] h = refl
joined_again zero size (x ∷ xs) h = absurd (omega (arith, h))
joined_again (suc n) size xs h =
    let rest : length (drop size xs) ≡ n * size = omega (arith, h, length-drop size xs) in
    ap (λ zs. take size xs ++ zs) (joined_again n size (drop size xs) rest) ∙ take-append-drop size xs

-- equal pages stand in equal bytes
pub same_bytes : (n s m t : ℕ) (xs ys : List ℕ) → length xs ≡ n * s → length ys ≡ m * t → pages_in n s xs ≡ pages_in m t ys → (n ≡ m) × (xs ≡ ys)
same_bytes n s m t xs ys h k e = (
  sym (length-pages_in n s xs) ∙ ap length e ∙ length-pages_in m t ys,
  sym (joined_again n s xs h) ∙ ap (flat_map (λ (p : List ℕ). p)) e ∙ joined_again m t ys k,
)

same_size : (n s t : ℕ) (xs : List ℕ) → length xs ≡ n * s → length xs ≡ n * t → pages_in n s xs ≡ pages_in n t xs
same_size zero s t xs h k = refl
same_size (suc n) s t xs h k = let e : s ≡ t = sym (mul-div_cancel_left s {n = suc n} (omega arith)) ∙ (ap (λ z. z / suc n) (sym h ∙ k) ∙ mul-div_cancel_left t {n = suc n} (omega arith)) in ap (λ z. pages_in (suc n) z xs) e

-- and equal bytes make equal pages
pub same_pages : (n s m t : ℕ) (xs ys : List ℕ) → length xs ≡ n * s → length ys ≡ m * t → n ≡ m → xs ≡ ys → pages_in n s xs ≡ pages_in m t ys
same_pages n s m t xs ys h k e f =
    let count : length xs ≡ n * t = ap length f ∙ k ∙ ap (λ (z : ℕ). z * t) (sym e) in
    same_size n s t xs h count ∙ ap (λ z. pages_in n t z) f ∙ ap (λ z. pages_in z t ys) e
