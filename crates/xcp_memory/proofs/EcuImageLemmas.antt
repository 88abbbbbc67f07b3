-- The controller's pages, one after another.
use Rattle.std.proofs.Common.{◌≡◌, ℕ, ◌+◌, ◌<◌, ◌≤◌, List, [], ◌++◌, length, map, take, get_or, ap, sym, ◌∙◌, arith, sum, length-append}
use Rattle.std.specs.Prelude.{sum_by}
use Rattle.std.specs.List.{flat_map}
use Rattle.std.proofs.lemmas.List.{get_or-map, length-map, length-replicate, ext_get_or, take_more, flat_map_more}
use Rattle.std.proofs.lemmas.List.Concat.{length-flat_map}
use Rattle.std.proofs.lemmas.List.Sums.{sum-map, sum_by_more_le}
use Rattle.xcp_memory.specs.declared.class.Class.{Class}
use Rattle.xcp_memory.specs.declared.class.Class.TheVariants.{Papers, Large}
use Rattle.xcp_memory.specs.ClassLimits.{limits_of}
use Rattle.xcp_memory.specs.EcuImage.{bytes_in_all, ecu_image, ecu_pages, image_size, size_in}
use Rattle.xcp_memory.specs.Layout.{IsLayout, LayoutValue, SegmentValue}
use Rattle.xcp_memory.specs.Pages.{PagesValue, SegmentPages, IsPages, ecu_page, segment_at, no_segment, no_pages}
use Rattle.xcp_memory.proofs.RangeLemmas.{page_size}

-- sums over two lists whose elements have equal terms
sums_same : {A B : Type 0} (f : A → ℕ) (g : B → ℕ) (d : A) (e : B) (xs : List A) (ys : List B) → length xs ≡ length ys → ((i : ℕ) → i < length xs → f (get_or xs i d) ≡ g (get_or ys i e)) → sum_by f xs ≡ sum_by g ys
sums_same {A} {B} f g d e xs ys l h =
    let same : map f xs ≡ map g ys = ext_get_or 0 (map f xs) (map g ys) (length-map xs f ∙ l ∙ sym (length-map ys g)) (λ i k.
    let short : i < length xs = omega (arith, length-map xs f) in
    get_or-map f xs i d 0 short ∙ h i short ∙ sym (get_or-map g ys i e 0 (omega (arith, l)))) in
    sym (sum-map f xs) ∙ ap sum same ∙ sum-map g ys

-- together the controller's pages are as long as the layout's segments
pub length-ecu_pages : (v : PagesValue) → IsPages v → length (flat_map ecu_page v.segments) ≡ sum_by (λ s. length s.bytes) v.layout.segments
length-ecu_pages v h =
    length-flat_map ecu_page v.segments
    ∙ sums_same (λ (s : SegmentPages). length (ecu_page s)) (λ (s : SegmentValue). length s.bytes) no_pages no_segment v.segments v.layout.segments h.count (λ i k. let s = h.each i k in page_size _ _ (segment_at v i) s s.ecu)

-- the bytes of a layout's first segments, and those of one more
pub bytes_room : (l : LayoutValue) (i : ℕ) → IsLayout l → i < length l.segments → sum_by (λ s. length s.bytes) (take i l.segments) + length (get_or l.segments i no_segment).bytes ≤ (limits_of l.class).bytes
bytes_room l i h below = omega (arith, h.total, sum_by_more_le (λ (s : SegmentValue). length s.bytes) l.segments i no_segment below)

-- a layout has a byte
pub some_byte : (l : LayoutValue) → IsLayout l → 1 ≤ bytes_in_all l
some_byte l h =
    let first = h.filled 0 no_segment h.segments_least in
    omega (arith, first, sum_by_more_le (λ (s : SegmentValue). length s.bytes) l.segments 0 no_segment h.segments_least)

-- the bytes of a class fit its image
pub size_room : (class : Class) (n : ℕ) → n ≤ (limits_of class).bytes → n ≤ size_in class n
size_room Papers n h = h
size_room Large n h = omega arith

-- the pages fit the image, which has as many bytes as its layout says
pub pages_room : (v : PagesValue) → IsLayout v.layout → IsPages v → length (ecu_pages v) ≤ image_size v.layout
pages_room v h p = omega (arith, length-ecu_pages v p, size_room v.layout.class (bytes_in_all v.layout) h.total)

-- the image has as many bytes as its layout says
pub length-ecu_image : (v : PagesValue) → IsLayout v.layout → IsPages v → length (ecu_image v) ≡ image_size v.layout
length-ecu_image v h p = simp (length-append, length-replicate) (omega (arith, pages_room v h p))

-- the pages of one more segment
pub pages_more : (segments : List SegmentPages) (i : ℕ) (s : SegmentPages) → i < length segments → s ≡ get_or segments i s → flat_map ecu_page (take (i + 1) segments) ≡ flat_map ecu_page (take i segments) ++ ecu_page s
pages_more segments i s h is =
    ap (λ (xs : List SegmentPages). flat_map ecu_page xs) (take_more segments i s h)
    ∙ sym (flat_map_more ecu_page [] (take i segments) (get_or segments i s))
    ∙ ap (λ (x : SegmentPages). flat_map ecu_page (take i segments) ++ ecu_page x) (sym is)

-- no class has more bytes than the large one
pub class_most : (class : Class) → (limits_of class).bytes ≤ 1048576
class_most Papers = omega arith
class_most Large = omega arith
