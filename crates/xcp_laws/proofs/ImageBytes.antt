-- Where the bytes of the controller's pages stand in the image.
use Rattle.std.proofs.Common.{◌≡◌, ℕ, ◌+◌, ◌-◌, ◌%◌, ◌<◌, ◌≤◌, List, length, map, take, get_or, replicate, inl, refl, ap, sym, ◌∙◌, arith, sum, length-append}
use Rattle.std.specs.Prelude.{sum_by}
use Rattle.std.specs.List.{flat_map}
use Rattle.std.proofs.lemmas.List.{get_or-map, length-map, ext_get_or, length-take-le, get_or-take, get_or_append_left, get_or-append_right, get_or-replicate, length-replicate, take_all}
use Rattle.std.proofs.lemmas.List.Concat.{length-flat_map, get_or-flat_map}
use Rattle.std.proofs.lemmas.List.Folds.{length-flat_map-take}
use Rattle.std.proofs.lemmas.List.Sums.{sum-map}
use Rattle.xcp_memory.specs.EcuImage.{bytes_in_all, ecu_image, ecu_pages, image_place, image_size, size_in}
use Rattle.xcp_memory.specs.ClassLimits.{limits_of}
use Rattle.xcp_memory.specs.declared.class.Class.{Class}
use Rattle.xcp_memory.specs.declared.class.Class.TheVariants.{Papers, Large}
use Rattle.xcp_memory.specs.Layout.{LayoutValue, SegmentValue, IsLayout}
use Rattle.xcp_memory.specs.Memory.{Controller}
use Rattle.xcp_memory.specs.Pages.{PagesValue, SegmentPages, IsPages, ecu_page, segment_at, no_segment, no_pages}
use Rattle.xcp_memory.proofs.EcuImageLemmas.{length-ecu_pages, some_byte}
use Rattle.xcp_memory.proofs.ReadLaws.{controller_sized}

-- two lists of the same length whose elements have equal terms have equal sums
same_sums : {A B : Type 0} (f : A → ℕ) (g : B → ℕ) (d : A) (e : B) (xs : List A) (ys : List B) → length xs ≡ length ys → ((i : ℕ) → i < length xs → f (get_or xs i d) ≡ g (get_or ys i e)) → sum_by f xs ≡ sum_by g ys
same_sums {A} {B} f g d e xs ys l h =
    let terms : map f xs ≡ map g ys = ext_get_or 0 (map f xs) (map g ys) (length-map xs f ∙ l ∙ sym (length-map ys g)) (λ i k.
    let short : i < length xs = omega (arith, length-map xs f) in
    get_or-map f xs i d 0 short ∙ h i short ∙ sym (get_or-map g ys i e 0 (omega (arith, l)))) in
    sym (sum-map f xs) ∙ ap sum terms ∙ sum-map g ys

-- the controller's pages of the first i segments are as long as these
before : (v : PagesValue) (i : ℕ) → IsPages v → i ≤ length v.segments → length (flat_map ecu_page (take i v.segments)) ≡ image_place v.layout i
before v i h below =
    let short : i ≤ length v.layout.segments = omega (arith, h.count) in
    let here : length (take i v.segments) ≡ i = length-take-le i v.segments below in
    let there : length (take i v.layout.segments) ≡ i = length-take-le i v.layout.segments short in
    length-flat_map ecu_page (take i v.segments)
    ∙ same_sums (λ (s : SegmentPages). length (ecu_page s)) (λ (s : SegmentValue). length s.bytes) no_pages no_segment (take i v.segments) (take i v.layout.segments) (here ∙ sym there) (λ k m.
    let first : k < i = omega (arith, here) in
    let e = get_or-take i v.segments k no_pages first in
    let f = get_or-take i v.layout.segments k no_segment first in
    ap (λ (x : SegmentPages). length (ecu_page x)) e ∙ controller_sized v h k (omega arith) ∙ sym (ap (λ (x : SegmentValue). length x.bytes) f))

-- a segment's bytes in the image are those of the page that the controller has
pub image_each : (v : PagesValue) (i k : ℕ) → IsPages v → i < length v.layout.segments → k < length (get_or v.layout.segments i no_segment).bytes → get_or (ecu_image v) (image_place v.layout i + k) 0 ≡ get_or (ecu_page (segment_at v i)) k 0
image_each v i k h there inside =
    let here : i < length v.segments = omega (arith, h.count) in
    let size : length (ecu_page (segment_at v i)) ≡ length (get_or v.layout.segments i no_segment).bytes = controller_sized v h i here in
    let place = before v i h (omega arith) in
    let room = length-flat_map-take ecu_page v.segments i no_pages here in
    get_or_append_left (ecu_pages v) (replicate (image_size v.layout - length (ecu_pages v)) 0) 0 (image_place v.layout i + k) (omega (arith, place, size, room))
    ∙ ap (λ (at : ℕ). get_or (ecu_pages v) (at + k) 0) (sym place)
    ∙ get_or-flat_map ecu_page v.segments i k no_pages 0 here (omega (arith, size))

-- so they are the controller's bytes at the segment's addresses
pub image_controller : (v : PagesValue) (i k : ℕ) → IsPages v → i < length v.layout.segments → k < length (get_or v.layout.segments i no_segment).bytes → Controller v ((get_or v.layout.segments i no_segment).address + k) (get_or (ecu_image v) (image_place v.layout i + k) 0)
image_controller v i k h there inside =
    let size : length (ecu_page (segment_at v i)) ≡ length (get_or v.layout.segments i no_segment).bytes = controller_sized v h i (omega (arith, h.count)) in
    let a : ℕ = (get_or v.layout.segments i no_segment).address in
    let back : k ≡ a + k - a = omega arith in
    inl (i, record { there = there; stands = record { from = omega arith; below = omega (arith, size); stands = image_each v i k h there inside ∙ ap (λ (j : ℕ). get_or (ecu_page (segment_at v i)) j 0) back } })

-- an image has whole words, one at least, and room for all segments
image_words_in : (class : Class) (n : ℕ) → 1 ≤ n → n ≤ (limits_of class).bytes → (size_in class n % 8 ≡ 0) × (8 ≤ size_in class n) × (n ≤ size_in class n)
image_words_in Papers n some few = (omega arith, omega arith, few)
image_words_in Large n some few = (omega arith, omega arith, omega arith)

pub image_words : (l : LayoutValue) → IsLayout l → (image_size l % 8 ≡ 0) × (8 ≤ image_size l) × (bytes_in_all l ≤ image_size l)
image_words l h = image_words_in l.class (bytes_in_all l) (some_byte l h) h.total

pub image_papers : (l : LayoutValue) → l.class ≡ Papers → image_size l ≡ 2040
image_papers l e = ap (λ (c : Class). size_in c (bytes_in_all l)) e

pub image_large : (l : LayoutValue) → l.class ≡ Large → image_size l < bytes_in_all l + 8
image_large l e = omega (arith, ap (λ (c : Class). size_in c (bytes_in_all l)) e)

-- behind all segments stand zeros
pub image_rest : (v : PagesValue) (k : ℕ) → IsPages v → image_place v.layout (length v.layout.segments) ≤ k → k < image_size v.layout → get_or (ecu_image v) k 0 ≡ 0
image_rest v k h behind below =
    let all = ap (λ (xs : List SegmentValue). sum_by (λ (s : SegmentValue). length s.bytes) xs) (take_all (length v.layout.segments) v.layout.segments (omega arith)) in
    let long = length-ecu_pages v h in
    get_or-append_right (ecu_pages v) (replicate (image_size v.layout - length (ecu_pages v)) 0) (length (ecu_pages v)) k 0 refl (omega (arith, all, long))
    ∙ get_or-replicate (image_size v.layout - length (ecu_pages v)) (k - length (ecu_pages v)) 0 0 (omega (arith, all, long))
