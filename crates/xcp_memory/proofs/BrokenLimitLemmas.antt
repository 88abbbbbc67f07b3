-- The first broken limit of parts that are looked at one by one.
use Rattle.std.proofs.Common.{◌≡◌, not, ℕ, ◌+◌, ◌<◌, ◌≤◌, true, List, length, map, ◌++◌, ◌∷◌, [], take, drop, Some, None, Option, refl, sym, ◌∙◌, ap, arith, add-zero, add-one, append_assoc, sum_by, get_or, if◌then◌else◌, suc, zero-add, nat_le}
use Rattle.std.specs.List.{flat_map, enumerate_from}
use Rattle.std.proofs.Math.Seq.{drop-cons}
use Rattle.std.proofs.lemmas.List.{take-append-drop, take_more, map-id}
use Rattle.std.proofs.lemmas.List.Sums.{sum_by-append}
use Rattle.xcp_packet.proofs.RowTestLemmas.{holding_left, none_left}
use Rattle.xcp_memory.specs.declared.class.Class.{Class}
use Rattle.xcp_memory.specs.declared.key.LayoutFault.{LayoutFault}
use Rattle.xcp_memory.specs.declared.parts.SegmentPart.{SegmentPart}
use Rattle.xcp_memory.specs.declared.parts.EventPart.{EventPart}
use Rattle.xcp_memory.specs.ClassLimits.{limits_of}
use Rattle.xcp_memory.specs.LayoutParts.{size}
use Rattle.xcp_packet.specs.Rows.{first_holding}
use Rattle.xcp_memory.specs.Limits.{Limit, limits_in, segment_limits, segments_limits, event_limits, events_limits}
use Rattle.std.proofs.lemmas.Bool.Decides.{nat_tests}

module _ {A : Type 0} (f : ℕ × A → List Limit) where
  -- the limits of numbered parts, put together
  pub numbered-append : (n : ℕ) (xs ys : List A) → flat_map f (enumerate_from n (xs ++ ys)) ≡ flat_map f (enumerate_from n xs) ++ flat_map f (enumerate_from (n + length xs) ys)
  numbered-append n [] ys = rw add-zero refl
  numbered-append n (x ∷ xs) ys =
      let e = numbered-append (n + 1) xs ys in
      let m : n + 1 + length xs ≡ n + length (x ∷ xs) = omega arith in
      ap (λ ls. f (n, x) ++ ls) (e ∙ ap (λ k. flat_map f (enumerate_from (n + 1) xs) ++ flat_map f (enumerate_from k ys)) m) ∙ sym (append_assoc (f (n, x)) (flat_map f (enumerate_from (n + 1) xs)) (flat_map f (enumerate_from (n + length (x ∷ xs)) ys)))

  -- the same from 0
  numbered : (xs ys : List A) → flat_map f (enumerate_from 0 (xs ++ ys)) ≡ flat_map f (enumerate_from 0 xs) ++ flat_map f (enumerate_from (length xs) ys)
  numbered xs ys =
      numbered-append 0 xs ys ∙ ap (λ n. flat_map f (enumerate_from 0 xs) ++ flat_map f (enumerate_from n ys)) (zero-add (length xs))

  -- one more part keeps its limits
  pub one_more_kept : (xs : List A) (x : A) → first_holding (flat_map f (enumerate_from 0 xs)) ≡ None → first_holding (f (length xs, x)) ≡ None → first_holding (flat_map f (enumerate_from 0 (xs ++ x ∷ []))) ≡ None
  one_more_kept xs x h k =
      ap first_holding (numbered xs (x ∷ []))
      ∙ none_left (flat_map f (enumerate_from 0 xs)) (f (length xs, x) ++ []) h
      ∙ none_left (f (length xs, x)) [] k

  -- one more part breaks one, whatever stands behind
  pub one_more_broken : (xs : List A) (x : A) (rest : List A) (e : LayoutFault) → first_holding (flat_map f (enumerate_from 0 xs)) ≡ None → first_holding (f (length xs, x)) ≡ Some e → first_holding (flat_map f (enumerate_from 0 (xs ++ x ∷ rest))) ≡ Some e
  one_more_broken xs x rest e h k =
      let behind = flat_map f (enumerate_from (length xs + 1) rest) in
      ap first_holding (numbered xs (x ∷ rest))
      ∙ none_left (flat_map f (enumerate_from 0 xs)) (f (length xs, x) ++ behind) h
      ∙ holding_left (f (length xs, x)) behind e k

-- a list, split at one of its elements
pub split_at : {A : Type 0} (all xs : List A) (x : A) → map (λ (y : A). y) xs ≡ take (length xs) all → (length xs < length all) × (x ≡ get_or all (length xs) x) → all ≡ xs ++ x ∷ drop (length xs + 1) all
split_at all xs x h k =
    let n = length xs in
    let here = drop-cons all n x k.0 ∙ ap (λ y. y ∷ drop (suc n) all) (sym k.1) ∙ ap (λ m. x ∷ drop m all) (sym (add-one n)) in
    sym (take-append-drop n all) ∙ ap (λ ys. ys ++ drop n all) (sym h ∙ map-id xs) ∙ ap (λ ys. xs ++ ys) here

-- the limits of the segment behind those that were read
pub limits_here : (class : Class) (all xs : List SegmentPart) (x : SegmentPart) → map (λ y. y) xs ≡ take (length xs) all → (length xs < length all) × (x ≡ get_or all (length xs) x) → limits_in class all (length xs, x) ≡ segment_limits class (length xs) (sum_by size xs + size x) x
limits_here class all xs x h k =
    let n = length xs in
    let front = take_more all n x k.0 ∙ ap (λ ys. ys ++ get_or all n x ∷ []) (sym h ∙ map-id xs) ∙ ap (λ y. xs ++ y ∷ []) (sym k.1) in
    let total = ap (sum_by size) front ∙ sum_by-append size xs (x ∷ []) in
    let e : sum_by size (take (n + 1) all) ≡ sum_by size xs + size x = omega (arith, total) in
    ap (λ t. segment_limits class n t x) e

-- what is read of a list's elements, in their order: so many of them, and the next one
pub record IsNext {A : Type 0} (all xs : List A) (x : A) : Type 0 where
  pub front : map (λ (y : A). y) xs ≡ take (length xs) all
  pub below : length xs < length all
  pub next : x ≡ get_or all (length xs) x

-- one more segment keeps its limits
pub segment_kept : (class : Class) (all xs : List SegmentPart) (x : SegmentPart) (i total : ℕ) → IsNext all xs x → i ≡ length xs → total ≡ sum_by size xs → first_holding (flat_map (limits_in class all) (enumerate_from 0 xs)) ≡ None → first_holding (segment_limits class i (total + size x) x) ≡ None → first_holding (flat_map (limits_in class all) (enumerate_from 0 (xs ++ x ∷ []))) ≡ None
segment_kept class all xs x i total n p q h k =
    one_more_kept (limits_in class all) xs x h (ap first_holding (limits_here class all xs x n.front (n.below, n.next)) ∙ (rw (← p, ← q) k))

-- where there is one at least, and no more than the most, the limits behind decide
within_counts : (n most : ℕ) → 1 ≤ n → n ≤ most → (a b : LayoutFault) (r : Option LayoutFault) {s : Option LayoutFault} → r ≡ s → (if not (nat_le 1 n) then Some a else (if not (nat_le n most) then Some b else r)) ≡ s
within_counts n most h k a b r e =
    let least : nat_le 1 n ≡ true = grind (arith, nat_tests) in
    let few : nat_le n most ≡ true = grind (arith, nat_tests) in
    rw (least, few) e

-- one more segment breaks one
pub segment_broken : (class : Class) (all xs : List SegmentPart) (x : SegmentPart) (i total : ℕ) (e : LayoutFault) → IsNext all xs x → i ≡ length xs → total ≡ sum_by size xs → first_holding (flat_map (limits_in class all) (enumerate_from 0 xs)) ≡ None → first_holding (segment_limits class i (total + size x) x) ≡ Some e → 1 ≤ length all → length all ≤ (limits_of class).segments → first_holding (segments_limits class all) ≡ Some e
segment_broken class all xs x i total e n p q h k least most =
    let broken = one_more_broken (limits_in class all) xs x (drop (length xs + 1) all) e h (ap first_holding (limits_here class all xs x n.front (n.below, n.next)) ∙ (rw (← p, ← q) k)) in
    let whole = ap (λ ys. first_holding (flat_map (limits_in class all) (enumerate_from 0 ys))) (split_at all xs x n.front (n.below, n.next)) ∙ broken in
    within_counts (length all) (limits_of class).segments least most _ _ _ whole

-- one more event channel keeps its limits
pub event_kept : (xs : List EventPart) (x : EventPart) (i : ℕ) → i ≡ length xs → first_holding (flat_map event_limits (enumerate_from 0 xs)) ≡ None → first_holding (event_limits (i, x)) ≡ None → first_holding (flat_map event_limits (enumerate_from 0 (xs ++ x ∷ []))) ≡ None
event_kept xs x i p h k = one_more_kept event_limits xs x h (rw (← p) k)

-- one more event channel breaks one
pub event_broken : (class : Class) (all xs : List EventPart) (x : EventPart) (i : ℕ) (e : LayoutFault) → IsNext all xs x → i ≡ length xs → first_holding (flat_map event_limits (enumerate_from 0 xs)) ≡ None → first_holding (event_limits (i, x)) ≡ Some e → 1 ≤ length all → length all ≤ (limits_of class).events → first_holding (events_limits class all) ≡ Some e
event_broken class all xs x i e n p h k least most =
    let broken = one_more_broken event_limits xs x (drop (length xs + 1) all) e h (rw (← p) k) in
    let whole = ap (λ ys. first_holding (flat_map event_limits (enumerate_from 0 ys))) (split_at all xs x n.front (n.below, n.next)) ∙ broken in
    within_counts (length all) (limits_of class).events least most _ _ _ whole
