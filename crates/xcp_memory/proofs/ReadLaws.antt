-- What is read is what the set of address and byte says.
use Rattle.std.proofs.Common.{◌≡◌, ℕ, ◌+◌, ◌-◌, ◌<◌, ◌≤◌, true, ◌⊎◌, inl, inr, List, length, take, drop, get_or, slice_index, Option, Some, None, ap, sym, ◌∙◌, arith, length-drop, refl, subst}
use Rattle.std.specs.Prelude.{◌↔◌}
use Rattle.std.proofs.lemmas.Bool.{cases_lt}
use Rattle.std.proofs.lemmas.List.{length-take-le, get_or-take, get_or-drop, ext_get_or}
use Rattle.xcp_memory.specs.Layout.{LayoutValue, Extent, IsLayout, extents, no_extent, signals_extent}
use Rattle.xcp_memory.specs.Memory.{Stands, InSegment, Tool, Controller, Reads}
use Rattle.xcp_memory.specs.Pages.{PagesValue, SegmentPages, IsPages, segment_at, no_segment, xcp_page, ecu_page}
use Rattle.xcp_memory.specs.ComputedAccess.{segment_of, lies_inside_by, lies_inside, bytes_by, tool_bytes, controller_bytes}
use Rattle.xcp_memory.proofs.AreaLaws.{length-extents, extents-segment, extents-signals, inside, inside_lies, inside_computes}
use Rattle.xcp_memory.proofs.RangeLemmas.{located, page_size}

-- the pairs of address and byte given by the pages that `page_of` picks
abbrev pub Pairs : (SegmentPages → List ℕ) → PagesValue → ℕ → ℕ → Type 0
Pairs page_of v address byte = ((i : ℕ) × InSegment page_of v address byte i) ⊎ Stands v.layout.signals_address v.signals address byte

-- each of these pages has its segment's size
abbrev pub IsSized : (SegmentPages → List ℕ) → PagesValue → Type 0
IsSized page_of v = (i : ℕ) → i < length v.segments → length (page_of (segment_at v i)) ≡ length (get_or v.layout.segments i no_segment).bytes

-- the tool's page of each segment has the segment's size
pub tool_sized : (v : PagesValue) → IsPages v → IsSized xcp_page v
tool_sized v h = λ i k. let s = h.each i k in page_size _ _ (segment_at v i) s s.xcp

-- the controller's page of each segment has the segment's size
pub controller_sized : (v : PagesValue) → IsPages v → IsSized ecu_page v
controller_sized v h = λ i k. let s = h.each i k in page_size _ _ (segment_at v i) s s.ecu

-- a range of n bytes that lies in an area, cut out of the area's bytes, has n bytes
pub cut : (s a n : ℕ) (xs : List ℕ) → s ≤ a → a + n ≤ s + length xs → length (take n (drop (a - s) xs)) ≡ n
cut s a n xs h k = length-take-le n (drop (a - s) xs) (omega (arith, length-drop (a - s) xs))

stood : (s a n : ℕ) (xs : List ℕ) → s ≤ a → a + n ≤ s + length xs → (k : ℕ) → k < n → Stands s xs (a + k) (get_or (take n (drop (a - s) xs)) k 0)
stood s a n xs h l k m =
    let e : a - s + k ≡ a + k - s = omega arith in
    record { from = omega arith; below = omega arith; stands = get_or-take n (drop (a - s) xs) k 0 m ∙ get_or-drop (a - s) xs k 0 ∙ ap (λ q. get_or xs q 0) e }

-- what a list of bytes has to be, to be a read
abbrev Gives : (SegmentPages → List ℕ) → PagesValue → ℕ → ℕ → List ℕ → Type 0
Gives page_of v a n xs = (length xs ≡ n) × ((k : ℕ) → k < n → Pairs page_of v (a + k) (slice_index xs k))

gives_by : (page_of : SegmentPages → List ℕ) (v : PagesValue) (a n : ℕ) (o : Option ℕ) → IsPages v → IsSized page_of v → segment_of v.layout a n ≡ o → lies_inside_by o v.layout a n ≡ true → Gives page_of v a n (bytes_by page_of o v a n)
gives_by page_of v a n (Some i) f z e w =
    let l = located v a n i f e in
    let s = (get_or v.layout.segments i no_segment).address in
    let to : a + n ≤ s + length (page_of (segment_at v i)) = omega (arith, l.to, z i l.paged) in
    (cut s a n (page_of (segment_at v i)) l.from to, λ k h. inl (i, record { there = l.there; stands = stood s a n (page_of (segment_at v i)) l.from to k h }))
gives_by page_of v a n None f z e w =
    let r = inside a n (signals_extent v.layout) w in
    let to : a + n ≤ v.layout.signals_address + length v.signals = omega (arith, r.1, f.signals) in
    (cut v.layout.signals_address a n v.signals r.0 to, λ k h. inr (stood v.layout.signals_address a n v.signals r.0 to k h))

-- two bytes that stand at one address stand in areas that are not apart
meet : (l : LayoutValue) (i j b : ℕ) → IsLayout l → i < j → j < length (extents l) → (get_or (extents l) i no_extent).address ≤ b → b < (get_or (extents l) i no_extent).address + (get_or (extents l) i no_extent).size → (get_or (extents l) j no_extent).address ≤ b → b < (get_or (extents l) j no_extent).address + (get_or (extents l) j no_extent).size → ⊥
meet l i j b h k m f g p q = elim (h.apart i j k m) [ inl e ↦ omega arith | inr e ↦ omega arith ]

-- where a byte of segment i stands
placed : (page_of : SegmentPages → List ℕ) (v : PagesValue) (b y i : ℕ) → IsPages v → IsSized page_of v → InSegment page_of v b y i → ((get_or (extents v.layout) i no_extent).address ≤ b) × (b < (get_or (extents v.layout) i no_extent).address + (get_or (extents v.layout) i no_extent).size)
placed page_of v b y i f z h =
    let at = extents-segment v.layout i h.there in
    let long = z i (omega (arith, h.there, f.count)) in
    (subst (λ (x : Extent). x.address ≤ b) (sym at) h.stands.from, subst (λ (x : Extent). b < x.address + x.size) (sym at) (omega (arith, h.stands.below, long)))

placed_signals : (v : PagesValue) (b y : ℕ) → IsPages v → Stands v.layout.signals_address v.signals b y → ((get_or (extents v.layout) (length v.layout.segments) no_extent).address ≤ b) × (b < (get_or (extents v.layout) (length v.layout.segments) no_extent).address + (get_or (extents v.layout) (length v.layout.segments) no_extent).size)
placed_signals v b y f h =
    let at = extents-signals v.layout in
    (subst (λ (x : Extent). x.address ≤ b) (sym at) h.from, subst (λ (x : Extent). b < x.address + x.size) (sym at) (omega (arith, h.below, f.signals)))

-- the segment in which an address lies is one
pub one_segment : (page_of : SegmentPages → List ℕ) (v : PagesValue) (b x y i j : ℕ) → IsLayout v.layout → IsPages v → IsSized page_of v → InSegment page_of v b x i → InSegment page_of v b y j → i ≡ j
one_segment page_of v b x y i j l f z h k =
    let p = placed page_of v b x i f z h in
    let q = placed page_of v b y j f z k in
    elim (cases_lt i j) [
      | inl m ↦ absurd (meet v.layout i j b l m (omega (arith, k.there, length-extents v.layout)) p.0 p.1 q.0 q.1)
      | inr m ↦ elim (cases_lt j i) [
        | inl n ↦ absurd (meet v.layout j i b l n (omega (arith, h.there, length-extents v.layout)) q.0 q.1 p.0 p.1)
        | inr n ↦ omega arith
      ]
    ]

-- and it isn't the signals
pub not_both : (page_of : SegmentPages → List ℕ) (v : PagesValue) (b x y i : ℕ) → IsLayout v.layout → IsPages v → IsSized page_of v → InSegment page_of v b x i → Stands v.layout.signals_address v.signals b y → ⊥
not_both page_of v b x y i l f z h k =
    let p = placed page_of v b x i f z h in
    let q = placed_signals v b y f k in
    meet v.layout i (length v.layout.segments) b l h.there (omega (arith, length-extents v.layout)) p.0 p.1 q.0 q.1

same_stands : (s : ℕ) (xs : List ℕ) (b x y : ℕ) → Stands s xs b x → Stands s xs b y → x ≡ y
same_stands s xs b x y h k = h.stands ∙ sym k.stands

-- an address pairs with one byte
pub one_byte : (page_of : SegmentPages → List ℕ) (v : PagesValue) (b x y : ℕ) → IsLayout v.layout → IsPages v → IsSized page_of v → Pairs page_of v b x → Pairs page_of v b y → x ≡ y
one_byte page_of v b x y l f z (inl h) (inl k) =
    same_stands _ _ b x y h.1.stands (subst (λ i. Stands (get_or v.layout.segments i no_segment).address (page_of (segment_at v i)) b y) (sym (one_segment page_of v b x y h.0 k.0 l f z h.1 k.1)) k.1.stands)
one_byte page_of v b x y l f z (inl h) (inr k) = absurd (not_both page_of v b x y h.0 l f z h.1 k)
one_byte page_of v b x y l f z (inr h) (inl k) = absurd (not_both page_of v b y x k.0 l f z k.1 h)
one_byte page_of v b x y l f z (inr h) (inr k) = same_stands _ _ b x y h k

-- two lists that a read may give are one
one_read : (page_of : SegmentPages → List ℕ) (v : PagesValue) (a n : ℕ) (xs ys : List ℕ) → IsLayout v.layout → IsPages v → IsSized page_of v → Gives page_of v a n xs → Gives page_of v a n ys → xs ≡ ys
one_read page_of v a n xs ys l f z h k =
    ext_get_or 0 xs ys (h.0 ∙ sym k.0) (λ i m. one_byte page_of v (a + i) _ _ l f z (h.1 i (omega (arith, h.0))) (k.1 i (omega (arith, h.0))))

-- a list is a read of the tool's bytes exactly where it is the one computed and the range lies in one area
pub tool_is_read : (v : PagesValue) (a n : ℕ) (xs : List ℕ) → IsLayout v.layout → IsPages v → Reads Tool v a n xs ↔ ((lies_inside v.layout a n ≡ true) × (xs ≡ tool_bytes v a n))
tool_is_read v a n xs l f =
    let z = tool_sized v f in (
      λ r.
          (let w = inside_computes v.layout a n r.inside in
          (w, one_read xcp_page v a n xs (tool_bytes v a n) l f z (r.long, r.each) (gives_by xcp_page v a n (segment_of v.layout a n) f z refl w))),
      λ r.
          (let g = gives_by xcp_page v a n (segment_of v.layout a n) f z refl r.0 in
          subst (λ ys. Reads Tool v a n ys) (sym r.1) (record { inside = inside_lies v.layout a n r.0; long = g.0; each = g.1 })),
    )

-- a list is a read of the controller's bytes exactly where it is the one computed and the range lies in one area
pub controller_is_read : (v : PagesValue) (a n : ℕ) (xs : List ℕ) → IsLayout v.layout → IsPages v → Reads Controller v a n xs ↔ ((lies_inside v.layout a n ≡ true) × (xs ≡ controller_bytes v a n))
controller_is_read v a n xs l f =
    let z = controller_sized v f in (
      λ r.
          (let w = inside_computes v.layout a n r.inside in
          (w, one_read ecu_page v a n xs (controller_bytes v a n) l f z (r.long, r.each) (gives_by ecu_page v a n (segment_of v.layout a n) f z refl w))),
      λ r.
          (let g = gives_by ecu_page v a n (segment_of v.layout a n) f z refl r.0 in
          subst (λ ys. Reads Controller v a n ys) (sym r.1) (record { inside = inside_lies v.layout a n r.0; long = g.0; each = g.1 })),
    )

-- what is copied from the bytes that were found is read
pub tool_reads : (v : PagesValue) (a n : ℕ) (xs : List ℕ) → IsLayout v.layout → IsPages v → lies_inside v.layout a n ≡ true → xs ≡ tool_bytes v a n → Reads Tool v a n xs
tool_reads v a n xs l f h e = (tool_is_read v a n xs l f).1 (h, e)

-- what is copied from the controller's bytes of a range in one area is a read of them
pub controller_reads : (v : PagesValue) (a n : ℕ) (xs : List ℕ) → IsLayout v.layout → IsPages v → lies_inside v.layout a n ≡ true → xs ≡ controller_bytes v a n → Reads Controller v a n xs
controller_reads v a n xs l f h e = (controller_is_read v a n xs l f).1 (h, e)
