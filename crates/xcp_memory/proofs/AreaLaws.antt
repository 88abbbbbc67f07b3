-- The areas of a layout: its segments in order, and then the signals.
use Rattle.std.proofs.Common.{◌≡◌, ℕ, ◌+◌, ◌<◌, ◌≤◌, Bool, true, false, List, length, map, ◌∷◌, [], Some, None, Option, length-append, refl, sym, ◌∙◌, ap, subst, arith, slice_index_or as get_or, inl, inr, suc, zero, cond, not, nat_lt}
use Rattle.std.specs.Prelude.{IfSome}
use Rattle.std.specs.List.{position_or_len}
use Rattle.std.proofs.lemmas.Bool.{cases_order, cases_lt}
use Rattle.std.proofs.Math.Nat.{sub_self}
use Rattle.xcp_memory.specs.Memory.{LiesIn, LiesInside}
use Rattle.std.proofs.lemmas.List.{get_or_append_left, get_or-append_right, length-map}
use Rattle.std.proofs.lemmas.List.Elements.{All-get_or}
use Rattle.std.proofs.lemmas.List.Quantifiers.{position-Some}
use Rattle.std.proofs.lemmas.Bool.Decides.{nat_tests}
use Rattle.std.proofs.Math.ListN.{get_or-map}
use Rattle.xcp_memory.specs.Layout.{LayoutValue, IsLayout, Extent, SegmentValue, extents, segment_extent, signals_extent, no_extent}
use Rattle.xcp_memory.specs.Pages.{no_segment}
use Rattle.xcp_memory.specs.ComputedAccess.{is_inside, segment_of, lies_inside_by, lies_inside, Located}

-- how many areas there are
pub length-extents : (l : LayoutValue) → length (extents l) ≡ length l.segments + 1
length-extents l = simp (length-append, length-map) refl

-- where segment i lies
pub extents-segment : (l : LayoutValue) (i : ℕ) → i < length l.segments → get_or (extents l) i no_extent ≡ segment_extent (get_or l.segments i no_segment)
extents-segment l i h =
    let e = length-map l.segments segment_extent in
    get_or_append_left (map segment_extent l.segments) (signals_extent l ∷ []) no_extent i (omega arith) ∙ get_or-map segment_extent l.segments i no_segment

-- a segment ends below the last address
pub segment_last : (l : LayoutValue) (i : ℕ) → IsLayout l → i < length l.segments → (get_or l.segments i no_segment).address + length (get_or l.segments i no_segment).bytes ≤ 0xFFFF_FFFF
segment_last l i h k =
    let P : Extent → Type 0 = λ e. e.address + e.size ≤ 0xFFFF_FFFF in
    subst P (extents-segment l i k) (All-get_or P (extents l) i no_extent (omega (arith, length-extents l)) h.last)

-- a range that passes the test lies between the area's ends
pub inside : (a n : ℕ) (e : Extent) → is_inside a n e ≡ true → (e.address ≤ a) × (a + n ≤ e.address + e.size)
inside a n e h = grind (arith, nat_tests, h)

-- what is known of the segment that is found
pub located : (l : LayoutValue) (a n : ℕ) (o : Option ℕ) → o ≡ segment_of l a n → IfSome o (Located l a n)
located l a n None e = tt
located l a n (Some i) e =
    let p = position-Some (λ s. is_inside a n (segment_extent s)) l.segments i no_segment (sym e) in
    let f = inside a n (segment_extent (get_or l.segments i no_segment)) p.1 in
    record { there = p.0; from = f.0; to = f.1 }

-- where the signals lie
pub extents-signals : (l : LayoutValue) → get_or (extents l) (length l.segments) no_extent ≡ signals_extent l
extents-signals l =
    let e = length-map l.segments segment_extent in
    get_or-append_right (map segment_extent l.segments) (signals_extent l ∷ []) (length l.segments) (length l.segments) no_extent e (omega arith) ∙ ap (λ n. get_or (signals_extent l ∷ []) n no_extent) (sub_self (length l.segments))

-- an area that holds a range passes the test
pub holds : (a n : ℕ) (e : Extent) → e.address ≤ a → a + n ≤ e.address + e.size → is_inside a n e ≡ true
holds a n e h k = grind (arith, nat_tests)

-- two areas of a layout that hold one address are no two
both_hold : (l : LayoutValue) (a i j : ℕ) → IsLayout l → LiesIn l a 1 i → LiesIn l a 1 j → i < j → ⊥
both_hold l a i j h p q below =
    let first = get_or (extents l) i no_extent in
    let second = get_or (extents l) j no_extent in
    let from_i = p.from in
    let to_i = p.to in
    let from_j = q.from in
    let to_j = q.to in
    elim (h.apart i j below q.there) [ inl e ↦ omega arith | inr e ↦ omega arith ]

-- an address lies in one area at most
pub one_area : (l : LayoutValue) (a i j : ℕ) → IsLayout l → LiesIn l a 1 i → LiesIn l a 1 j → i ≡ j
one_area l a i j h p q =
    elim (cases_order i j) [
      | inl e ↦ e
      | inr e ↦ elim e [ inl below ↦ absurd (both_hold l a i j h p q below) | inr above ↦ absurd (both_hold l a j i h q p above) ]
    ]

-- the first place that passes is no later than any that does
first_place : {X : Type 0} (p : X → Bool) (xs : List X) (i : ℕ) (d : X) → i < length xs → p (get_or xs i d) ≡ true → position_or_len p xs ≤ i
first_place p [] i d h k = omega arith
first_place p (x ∷ xs) zero d h k = let e = ap (λ b. cond (not b) (1 + position_or_len p xs) 0) k in omega arith
first_place p (x ∷ xs) (suc i) d h k =
    let later = first_place p xs i d (omega arith) k in
    elim (p x) as (λ b. cond (not b) (1 + position_or_len p xs) 0 ≤ suc i) [ true ↦ omega arith | false ↦ omega arith ]

-- a range that lies in a segment lies inside
in_segment : (l : LayoutValue) (a n : ℕ) (b : Bool) (k : ℕ) → b ≡ true → lies_inside_by (cond b (Some k) None) l a n ≡ true
in_segment l a n true k h = refl
in_segment l a n false k h = cc

-- a range that lies in the signals lies inside
in_signals : (l : LayoutValue) (a n : ℕ) (o : Option ℕ) → is_inside a n (signals_extent l) ≡ true → lies_inside_by o l a n ≡ true
in_signals l a n (Some i) h = refl
in_signals l a n None h = h

-- a range that lies inside an area passes the test
pub inside_computes : (l : LayoutValue) (a n : ℕ) → LiesInside l a n → lies_inside l a n ≡ true
inside_computes l a n (i, h) =
    let count = length-extents l in
    let there = h.there in
    let Holds : Extent → Type 0 = λ e. (e.address ≤ a) × (a + n ≤ e.address + e.size) in
    elim (cases_lt i (length l.segments)) [
      | inl below ↦
          let ends = subst Holds (extents-segment l i below) (h.from, h.to) in
          let test = λ (s : SegmentValue). is_inside a n (segment_extent s) in
          let passes = holds a n (segment_extent (get_or l.segments i no_segment)) ends.0 ends.1 in
          let place = first_place test l.segments i no_segment below passes in
          let found : nat_lt (position_or_len test l.segments) (length l.segments) ≡ true = grind (arith, nat_tests) in
          in_segment l a n _ (position_or_len test l.segments) found
      | inr above ↦
          let last : i ≡ length l.segments = omega arith in
          let ends = subst Holds (ap (λ k. get_or (extents l) k no_extent) last ∙ extents-signals l) (h.from, h.to) in
          in_signals l a n (segment_of l a n) (holds a n (signals_extent l) ends.0 ends.1)
    ]

-- the segment that was found holds the range
pub segment_lies : (l : LayoutValue) (a n i : ℕ) → segment_of l a n ≡ Some i → LiesIn l a n i
segment_lies l a n i e =
    let p = located l a n (Some i) (sym e) in
    let Holds : Extent → Type 0 = λ e. (e.address ≤ a) × (a + n ≤ e.address + e.size) in
    let ends = subst Holds (sym (extents-segment l i p.there)) (p.from, p.to) in
    record { there = omega (arith, length-extents l, p.there); from = ends.0; to = ends.1 }

-- the signals hold a range that passes their test
pub signals_lie : (l : LayoutValue) (a n : ℕ) → is_inside a n (signals_extent l) ≡ true → LiesIn l a n (length l.segments)
signals_lie l a n h =
    let Holds : Extent → Type 0 = λ e. (e.address ≤ a) × (a + n ≤ e.address + e.size) in
    let ends = subst Holds (sym (extents-signals l)) (inside a n (signals_extent l) h) in
    record { there = omega (arith, length-extents l); from = ends.0; to = ends.1 }

-- what was found lies inside an area
found_lies : (l : LayoutValue) (a n : ℕ) (o : Option ℕ) → o ≡ segment_of l a n → lies_inside_by o l a n ≡ true → LiesInside l a n
found_lies l a n (Some i) e h = (i, segment_lies l a n i (sym e))
found_lies l a n None e h = (length l.segments, signals_lie l a n h)

-- a range that passes the test lies inside an area
pub inside_lies : (l : LayoutValue) (a n : ℕ) → lies_inside l a n ≡ true → LiesInside l a n
inside_lies l a n h = found_lies l a n (segment_of l a n) refl h
