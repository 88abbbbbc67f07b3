-- Ranges that lie in an area end below the last address.
use Rattle.std.proofs.Common.{◌≡◌, ℕ, ◌+◌, ◌<◌, ◌≤◌, ◌==◌, ◌%◌, not, Bool, true, false, cond, [], ◌∷◌, length, map, Option, Some, None, length-append, refl, ◌∙◌, subst, arith, slice_index_or as get_or}
use Rattle.std.proofs.lemmas.List.{get_or_append_left, length-map}
use Rattle.std.proofs.lemmas.List.Elements.{All-get_or}
use Rattle.std.proofs.lemmas.List.Quantifiers.{position-Some}
use Rattle.std.proofs.lemmas.Bool.Decides.{nat_tests}
use Rattle.std.proofs.Math.ListN.{get_or-map}
use Rattle.std.proofs.Math.Seq.{get_or-append_seam}
use Rattle.xcp_packet.specs.declared.Code.TheVariants.{OutOfRange, AccessDenied, WriteProtected}
use Rattle.xcp_packet.specs.Rows.{first_holding}
use Rattle.xcp_memory.specs.Checksum.{unit, sum_refusal}
use Rattle.xcp_memory.specs.Layout.{LayoutValue, IsLayout, Extent, extents, segment_extent, signals_extent, no_extent}
use Rattle.xcp_memory.specs.Pages.{PagesValue, no_segment}
use Rattle.xcp_memory.specs.ComputedAccess.{is_inside, segment_of, lies_inside, lies_inside_by, write_refusal, write_refusal_by}

to : (a n : ℕ) (e : Extent) → is_inside a n e ≡ true → a + n ≤ e.address + e.size
to a n e h = grind (arith, nat_tests, h)

-- each area ends below the last address
area_last : (l : LayoutValue) (i : ℕ) → IsLayout l → i < length (extents l) → (get_or (extents l) i no_extent).address + (get_or (extents l) i no_extent).size ≤ 0xFFFF_FFFF
area_last l i h k = All-get_or (λ (e : Extent). e.address + e.size ≤ 0xFFFF_FFFF) (extents l) i no_extent k h.last

segment_last : (l : LayoutValue) (i : ℕ) → IsLayout l → i < length l.segments → (segment_extent (get_or l.segments i no_segment)).address + (segment_extent (get_or l.segments i no_segment)).size ≤ 0xFFFF_FFFF
segment_last l i h k =
    let e = length-map l.segments segment_extent in
    let long : length (extents l) ≡ length l.segments + 1 = simp (length-append, length-map) refl in
    let at : get_or (extents l) i no_extent ≡ segment_extent (get_or l.segments i no_segment) = get_or_append_left (map segment_extent l.segments) (signals_extent l ∷ []) no_extent i (omega arith) ∙ get_or-map segment_extent l.segments i no_segment in
    subst (λ (e : Extent). e.address + e.size ≤ 0xFFFF_FFFF) at (area_last l i h (omega arith))

signals_last : (l : LayoutValue) → IsLayout l → l.signals_address + l.signals_length ≤ 0xFFFF_FFFF
signals_last l h =
    let e = length-map l.segments segment_extent in
    let long : length (extents l) ≡ length l.segments + 1 = simp (length-append, length-map) refl in
    let at : get_or (extents l) (length l.segments) no_extent ≡ signals_extent l = subst (λ (k : ℕ). get_or (extents l) k no_extent ≡ signals_extent l) e (get_or-append_seam (map segment_extent l.segments) (signals_extent l) [] no_extent) in
    subst (λ (e : Extent). e.address + e.size ≤ 0xFFFF_FFFF) at (area_last l (length l.segments) h (omega arith))

-- a range in the segment that is found
found_last : (l : LayoutValue) (a n i : ℕ) → IsLayout l → segment_of l a n ≡ Some i → a + n ≤ 0xFFFF_FFFF
found_last l a n i h e =
    let p = position-Some (λ s. is_inside a n (segment_extent s)) l.segments i no_segment e in
    let t = to a n (segment_extent (get_or l.segments i no_segment)) p.1 in
    let s = segment_last l i h p.0 in
    omega arith

inside_by : (l : LayoutValue) (a n : ℕ) (o : Option ℕ) → IsLayout l → segment_of l a n ≡ o → lies_inside_by o l a n ≡ true → a + n ≤ 0xFFFF_FFFF
inside_by l a n (Some i) h e k = found_last l a n i h e
inside_by l a n None h e k = let t = to a n (signals_extent l) k in let s = signals_last l h in omega arith

-- a range in one area
pub inside_last : (l : LayoutValue) (a n : ℕ) → IsLayout l → lies_inside l a n ≡ true → a + n ≤ 0xFFFF_FFFF
inside_last l a n h k = inside_by l a n (segment_of l a n) h refl k

-- where no refusal holds, the bytes lie in one area
lying : (s t b : Bool) → first_holding ((s, OutOfRange) ∷ (t, OutOfRange) ∷ (not b, AccessDenied) ∷ []) ≡ None → b ≡ true
lying true t b k = absurd (cc)
lying false true b k = absurd (cc)
lying false false true k = refl
lying false false false k = absurd (cc)

-- a range that can be summed up
pub summed_last : (v : PagesValue) (a n : ℕ) → IsLayout v.layout → sum_refusal v.layout.checksum (lies_inside v.layout a n) n ≡ None → a + n ≤ 0xFFFF_FFFF
summed_last v a n h k = inside_last v.layout a n h (lying (n == 0) (not (n % unit v.layout.checksum == 0)) (lies_inside v.layout a n) k)

protected : (b : Bool) → cond b (Some WriteProtected) (Some AccessDenied) ≡ None → b ≡ true
protected true k = refl
protected false k = absurd (cc)

allowed_by : (v : PagesValue) (a n : ℕ) (o : Option ℕ) → segment_of v.layout a n ≡ o → write_refusal_by o v a n ≡ None → lies_inside_by o v.layout a n ≡ true
allowed_by v a n (Some i) e k = refl
allowed_by v a n None e k = protected (is_inside a n (signals_extent v.layout)) k

-- a range that may be written
pub allowed_last : (v : PagesValue) (a n : ℕ) → IsLayout v.layout → write_refusal v a n ≡ None → a + n ≤ 0xFFFF_FFFF
allowed_last v a n h k = inside_last v.layout a n h (allowed_by v a n (segment_of v.layout a n) refl k)
