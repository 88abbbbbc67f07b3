-- Where a write at an address changes the image.
use Rattle.std.proofs.Common.{◌≡◌, ℕ, zero, suc, ◌+◌, ◌-◌, ◌<◌, ◌≤◌, ◌⊎◌, inl, inr, List, [], ◌∷◌, ◌++◌, length, take, get_or, replicate, slice_set, Option, Some, None, true, ap, sym, ◌∙◌, refl, subst, arith, length-append}
use Rattle.std.specs.List.{flat_map}
use Rattle.std.specs.Prelude.{sum_by}
use Rattle.std.proofs.lemmas.Bool.{cases_lt, cases_eq}
use Rattle.std.proofs.lemmas.Grind.{elements}
use Rattle.std.proofs.lemmas.List.{get_or-set_same, get_or-set_other, get_or_append_left, get_or-append_right}
use Rattle.std.proofs.lemmas.List.Sums.{sum_by-cons, sum_by-take-drop, sum_by_more}
use Rattle.xcp_memory.specs.ComputedAccess.{is_inside, lies_inside_by, overwritten, pages_written, place_in, segment_of, segment_written, write_refusal, write_refusal_by, written_by}
use Rattle.xcp_memory.specs.Layout.{IsLayout, LayoutValue, SegmentValue, signals_extent}
use Rattle.xcp_memory.specs.Memory.{LiesIn}
use Rattle.xcp_memory.specs.EcuImage.{bytes_in_all, ecu_image, ecu_pages, image_place, image_size}
use Rattle.xcp_memory.specs.Pages.{IsPages, PagesValue, SegmentPages, ecu_page, no_pages, no_segment, segment_at, xcp_page}
use Rattle.xcp_memory.proofs.PageLemmas.{length-overwritten}
use Rattle.xcp_memory.proofs.RangeLemmas.{located}
use Rattle.xcp_memory.proofs.ReadLaws.{controller_sized}
use Rattle.xcp_memory.proofs.AreaLaws as areas
use Rattle.xcp_slave.proofs.TransferInvariantLemmas.{outside}
use Rattle.xcp_controller.specs.ImageRanges.{SameOutside}
use Rattle.xcp_controller.specs.private.SegmentPlaces.{StandsWithin}

-- both lists have the same elements at all other places, however long they are
abbrev Outside : ℕ → ℕ → List ℕ → List ℕ → Type 0
Outside from to xs ys = (k : ℕ) → (k < from) ⊎ (to ≤ k) → get_or ys k 0 ≡ get_or xs k 0

-- bytes that are overwritten are the same outside of the new ones
overwritten-outside : (xs ys : List ℕ) (i : ℕ) → i + length ys ≤ length xs → Outside i (i + length ys) xs (overwritten xs i ys)
overwritten-outside xs ys i h k (inl o) = grind (arith, elements)
overwritten-outside xs ys i h k (inr o) = grind (arith, elements)

-- the same bytes behind two lists of the same length
before-same : (xs ys zs : List ℕ) (from to : ℕ) → length ys ≡ length xs → Outside from to xs ys → Outside from to (xs ++ zs) (ys ++ zs)
before-same xs ys zs from to size h k o = elim (cases_lt k (length xs)) [
  | inl e ↦ get_or_append_left ys zs 0 k (omega (arith, size)) ∙ h k o ∙ sym (get_or_append_left xs zs 0 k e)
  | inr e ↦ get_or-append_right ys zs (length xs) k 0 size e ∙ sym (get_or-append_right xs zs (length xs) k 0 refl e)
]

-- the same bytes before two lists: what differs is moved by as many
behind-same : (xs ys zs : List ℕ) (from to at : ℕ) → at ≡ length zs → Outside from to xs ys → Outside (at + from) (at + to) (zs ++ xs) (zs ++ ys)
behind-same xs ys zs from to at long h k o = elim (cases_lt k at) [
  | inl e ↦ get_or_append_left zs ys 0 k (omega (arith, long)) ∙ sym (get_or_append_left zs xs 0 k (omega (arith, long)))
  | inr e ↦ get_or-append_right zs ys at k 0 (sym long) e ∙ h (k - at) (moved o e) ∙ sym (get_or-append_right zs xs at k 0 (sym long) e)
]
  where
    moved : (k < at + from) ⊎ (at + to ≤ k) → at ≤ k → (k - at < from) ⊎ (to ≤ k - at)
    moved (inl o) e = inl (omega arith)
    moved (inr o) e = inr (omega arith)

-- the pages one after another, where one segment's page is another one that differs in a range
pages-outside : (xs : List SegmentPages) (i from to at : ℕ) (y : SegmentPages) → i < length xs → length (ecu_page y) ≡ length (ecu_page (get_or xs i no_pages)) → at ≡ length (flat_map ecu_page (take i xs)) → Outside from to (ecu_page (get_or xs i no_pages)) (ecu_page y) → Outside (at + from) (at + to) (flat_map ecu_page xs) (flat_map ecu_page (slice_set xs i y))
pages-outside [] i from to at y below size place h = absurd (omega (arith, below))
pages-outside (x ∷ xs) zero from to at y below size place h = λ k o. before-same (ecu_page x) (ecu_page y) (flat_map ecu_page xs) from to size h k (bare o)
  where
    bare : {k : ℕ} → (k < at + from) ⊎ (at + to ≤ k) → (k < from) ⊎ (to ≤ k)
    bare (inl o) = inl (omega (arith, place))
    bare (inr o) = inr (omega (arith, place))
pages-outside (x ∷ xs) (suc i) from to at y below size place h =
    let rest : ℕ = length (flat_map ecu_page (take i xs)) in
    let all : at ≡ length (ecu_page x) + rest = place ∙ length-append (ecu_page x) (flat_map ecu_page (take i xs)) in
    let later : Outside (rest + from) (rest + to) (flat_map ecu_page xs) (flat_map ecu_page (slice_set xs i y)) = pages-outside xs i from to rest y (omega (arith, below)) size refl h in
    λ k o. behind-same (flat_map ecu_page xs) (flat_map ecu_page (slice_set xs i y)) (ecu_page x) (rest + from) (rest + to) (length (ecu_page x)) refl later k (elim o [
      | inl b ↦ inl (omega (arith, all))
      | inr b ↦ inr (omega (arith, all))
    ])

-- they are as long as before
pages-long : (xs : List SegmentPages) (i : ℕ) (y : SegmentPages) → length (ecu_page y) ≡ length (ecu_page (get_or xs i no_pages)) → length (flat_map ecu_page (slice_set xs i y)) ≡ length (flat_map ecu_page xs)
pages-long [] i y size = refl
pages-long (x ∷ xs) zero y size =
    length-append (ecu_page y) (flat_map ecu_page xs) ∙ ap (λ (n : ℕ). n + length (flat_map ecu_page xs)) size ∙ sym (length-append (ecu_page x) (flat_map ecu_page xs))
pages-long (x ∷ xs) (suc i) y size =
    length-append (ecu_page x) (flat_map ecu_page (slice_set xs i y)) ∙ ap (λ (n : ℕ). length (ecu_page x) + n) (pages-long xs i y size) ∙ sym (length-append (ecu_page x) (flat_map ecu_page xs))

-- The controller's page of a segment after a write over the tool's: as long as before, and the same outside of the range; it is another one
-- only where both have the same page.
written-page : (s : SegmentPages) (place : ℕ) (bytes : List ℕ) → s.ecu < length s.pages → place + length bytes ≤ length (xcp_page s) → (length (ecu_page (segment_written s place bytes)) ≡ length (ecu_page s)) × Outside place (place + length bytes) (ecu_page s) (ecu_page (segment_written s place bytes))
written-page s place bytes there room = elim (cases_eq s.ecu s.xcp) [
  | inl e ↦
      let here : ecu_page (segment_written s place bytes) ≡ overwritten (ecu_page s) place bytes =
      ap (λ (n : ℕ). get_or (slice_set s.pages n (overwritten (get_or s.pages n []) place bytes)) s.ecu []) (sym e) ∙ get_or-set_same s.pages s.ecu (overwritten (ecu_page s) place bytes) [] there in
      let fits : place + length bytes ≤ length (ecu_page s) = subst (λ (n : ℕ). place + length bytes ≤ length (get_or s.pages n [])) (sym e) room in (
        ap length here ∙ length-overwritten (ecu_page s) bytes place fits,
        λ k o. ap (λ (xs : List ℕ). get_or xs k 0) here ∙ overwritten-outside (ecu_page s) bytes place fits k o,
      )
  | inr e ↦
      let here : ecu_page (segment_written s place bytes) ≡ ecu_page s = get_or-set_other s.pages s.xcp s.ecu (overwritten (xcp_page s) place bytes) [] e in
      (ap length here, λ k o. ap (λ (xs : List ℕ). get_or xs k 0) here)
]

-- images of pages that differ in a range of one segment
image-outside : (p q : PagesValue) (i from to at : ℕ) (y : SegmentPages) → q.layout ≡ p.layout → i < length p.segments → q.segments ≡ slice_set p.segments i y → length (ecu_page y) ≡ length (ecu_page (segment_at p i)) → at ≡ length (flat_map ecu_page (take i p.segments)) → Outside from to (ecu_page (segment_at p i)) (ecu_page y) → Outside (at + from) (at + to) (ecu_image p) (ecu_image q)
image-outside p q i from to at y layout below is size place h k o =
    let pages : ecu_pages q ≡ flat_map ecu_page (slice_set p.segments i y) = ap (flat_map ecu_page) is in
    let long : length (ecu_pages q) ≡ length (ecu_pages p) = ap length pages ∙ pages-long p.segments i y size in
    let outside : Outside (at + from) (at + to) (ecu_pages p) (ecu_pages q) = λ j b. ap (λ (xs : List ℕ). get_or xs j 0) pages ∙ pages-outside p.segments i from to at y below size place h j b in
    ap (λ (n : ℕ). get_or (ecu_pages q ++ replicate (image_size q.layout - n) 0) k 0) long
    ∙ ap (λ (l : LayoutValue). get_or (ecu_pages q ++ replicate (image_size l - length (ecu_pages p)) 0) k 0) layout
    ∙ before-same (ecu_pages p) (ecu_pages q) (replicate (image_size p.layout - length (ecu_pages p)) 0) (at + from) (at + to) long outside k o

-- the controller's pages of the first segments are as long as the layout says
pages-sum : (xs : List SegmentPages) (ys : List SegmentValue) (i : ℕ) → length xs ≡ length ys → ((k : ℕ) → k < length xs → length (ecu_page (get_or xs k no_pages)) ≡ length (get_or ys k no_segment).bytes) → length (flat_map ecu_page (take i xs)) ≡ sum_by (λ (s : SegmentValue). length s.bytes) (take i ys)
pages-sum [] [] zero l h = refl
pages-sum [] [] (suc i) l h = refl
pages-sum [] (y ∷ ys) i l h = cc
pages-sum (x ∷ xs) [] i l h = cc
pages-sum (x ∷ xs) (y ∷ ys) zero l h = refl
pages-sum (x ∷ xs) (y ∷ ys) (suc i) l h =
    let first : length (ecu_page x) ≡ length y.bytes = h 0 (omega arith) in
    let rest = pages-sum xs ys i (omega (arith, l)) (λ k b. h (suc k) (omega (arith, b))) in
    length-append (ecu_page x) (flat_map ecu_page (take i xs))
    ∙ ap (λ (n : ℕ). n + length (flat_map ecu_page (take i xs))) first
    ∙ ap (λ (n : ℕ). length y.bytes + n) rest
    ∙ sym (sum_by-cons (λ (s : SegmentValue). length s.bytes) y (take i ys))

-- The image after a write of bytes from address a on, which lie in segment i: it is the same outside of their places there.
write-outside : (p : PagesValue) (a i : ℕ) (bytes : List ℕ) → IsPages p → segment_of p.layout a (length bytes) ≡ Some i → Outside (image_place p.layout i + place_in p.layout i a) (image_place p.layout i + (place_in p.layout i a + length bytes)) (ecu_image p) (ecu_image (pages_written p a bytes))
write-outside p a i bytes h found =
    let lies = located p a (length bytes) i h found in
    let here : ℕ = place_in p.layout i a in
    let room : here + length bytes ≤ length (xcp_page (segment_at p i)) = omega (arith, lies.from, lies.to, lies.xcp_size) in
    let page = written-page (segment_at p i) here bytes lies.ecu room in
    let is : (pages_written p a bytes).segments ≡ slice_set p.segments i (segment_written (segment_at p i) here bytes) = ap (λ (o : Option ℕ). (written_by o p a bytes).segments) found in
    let place : image_place p.layout i ≡ length (flat_map ecu_page (take i p.segments)) = sym (pages-sum p.segments p.layout.segments i h.count (controller_sized p h)) in
    image-outside p (pages_written p a bytes) i here (here + length bytes) (image_place p.layout i) (segment_written (segment_at p i) here bytes) (ap (λ (o : Option ℕ). (written_by o p a bytes).layout) found) lies.paged is page.0 place page.1

-- a range that may be written lies in a segment
segment-by : (o : Option ℕ) (p : PagesValue) (a n : ℕ) → write_refusal_by o p a n ≡ None → (i : ℕ) × (o ≡ Some i)
segment-by None p a n h = absurd (outside (is_inside a n (signals_extent p.layout)) h)
segment-by (Some i) p a n h = (i, refl)

-- So a write that isn't refused leaves the image the same outside of each range in which its bytes stand.
pub write-within : (p : PagesValue) (a from to : ℕ) (bytes : List ℕ) → IsPages p → write_refusal p a (length bytes) ≡ None → StandsWithin p.layout a (length bytes) from to → SameOutside from to (ecu_image p) (ecu_image (pages_written p a bytes))
write-within p a from to bytes h allowed within k few o =
    let found = segment-by (segment_of p.layout a (length bytes)) p a (length bytes) allowed in
    let range = within found.0 found.1 in
    write-outside p a found.0 bytes h found.1 k (elim o [
      | inl b ↦ inl (omega (arith, range.0))
      | inr b ↦ inr (omega (arith, range.1))
    ])

-- one more segment
pub place-next : (l : LayoutValue) (i : ℕ) → i < length l.segments → image_place l (i + 1) ≡ image_place l i + length (get_or l.segments i no_segment).bytes
place-next l i below = sum_by_more (λ (s : SegmentValue). length s.bytes) l.segments i no_segment below

-- the bytes of a segment end within those of all segments
pub place-room : (l : LayoutValue) (i : ℕ) → i < length l.segments → image_place l i + length (get_or l.segments i no_segment).bytes ≤ bytes_in_all l
place-room l i below =
    let next = place-next l i below in
    let parts = sum_by-take-drop (λ (s : SegmentValue). length s.bytes) l.segments (i + 1) in
    omega (arith, next, parts)

-- the last address of a range that lies in segment i is found there
last-found : (l : LayoutValue) (a n i : ℕ) (o : Option ℕ) → IsLayout l → 0 < n → segment_of l a n ≡ Some i → o ≡ segment_of l (a + n - 1) 1 → o ≡ Some i
last-found l a n i o h some found is =
    let whole = areas.segment_lies l a n i found in
    let last : LiesIn l (a + n - 1) 1 i = record { there = whole.there; from = omega (arith, whole.from); to = omega (arith, whole.to) } in
    last-by l (a + n - 1) i o h last (areas.located l a n (Some i) (sym found)).there is
  where
    last-by : (l : LayoutValue) (b i : ℕ) (o : Option ℕ) → IsLayout l → LiesIn l b 1 i → i < length l.segments → o ≡ segment_of l b 1 → o ≡ Some i
    last-by l b i (Some j) h lies there is = ap Some (areas.one_area l b j i h (areas.segment_lies l b 1 j (sym is)) lies)
    last-by l b i None h lies there is =
        let inside : is_inside b 1 (signals_extent l) ≡ true = ap (λ (o : Option ℕ). lies_inside_by o l b 1) is ∙ areas.inside_computes l b 1 (i, lies) in
        let here = areas.one_area l b i (length l.segments) h lies (areas.signals_lie l b 1 inside) in
        absurd (omega (arith, here, there))

-- so it is found
pub end-found : (l : LayoutValue) (a n i end last : ℕ) → IsLayout l → 0 < n → a + n ≡ end → last ≡ end - 1 → segment_of l a n ≡ Some i → None ≡ segment_of l last 1 → ⊥
end-found l a n i end last h some whole is found none =
    let before : last ≡ a + n - 1 = omega (arith, whole, is) in
    let here : None ≡ Some i = last-found l a n i None h some found (none ∙ ap (λ (b : ℕ). segment_of l b 1) before) in
    cc

-- a write of at most 255 bytes that ends at this address stands within as many places before it in the image
pub end-within : (l : LayoutValue) (a n i j end last : ℕ) → IsLayout l → 0 < n → n ≤ 255 → a + n ≡ end → last ≡ end - 1 → segment_of l a n ≡ Some i → Some j ≡ segment_of l last 1 → (image_place l j + (end - (get_or l.segments j no_segment).address) - 255 ≤ image_place l i + place_in l i a) × (image_place l i + (place_in l i a + n) ≤ image_place l j + (end - (get_or l.segments j no_segment).address))
end-within l a n i j end last h some few whole is found here =
    let before : last ≡ a + n - 1 = omega (arith, whole, is) in
    let same : Some j ≡ Some i = last-found l a n i (Some j) h some found (here ∙ ap (λ (b : ℕ). segment_of l b 1) before) in
    let one : j ≡ i = cc in
    let lies = areas.located l a n (Some i) (sym found) in
    subst (λ (k : ℕ). (image_place l k + (end - (get_or l.segments k no_segment).address) - 255 ≤ image_place l i + place_in l i a) × (image_place l i + (place_in l i a + n) ≤ image_place l k + (end - (get_or l.segments k no_segment).address))) (sym one)
    (omega (arith, whole, few, lies.from), omega (arith, whole, lies.from))
