-- What the bytes of a frame are, as they gather.
use Rattle.std.proofs.Common.{◌≡◌, ◌≢◌, ◌<◌, ◌≤◌, ◌+◌, ◌-◌, ◌==◌, nat_lt, min, zero, suc, ℕ, true, false, List, [], ◌∷◌, ◌++◌, length, drop, take, if◌then◌else◌, refl, sym, ap, ◌∙◌, arith, append_assoc, length-append, length-drop}
use Rattle.std.proofs.lemmas.List.{append-nil, length-take, take-append-drop}
use Rattle.std.proofs.lemmas.Bool.Decides.{nat_tests}
use Rattle.std.proofs.Math.Seq.{take-add}
use Rattle.xcp_framing.specs.Wire.{len_of, is_frame, packet_in, IsUnfinished, IsBadLength}
use Rattle.xcp_framing.specs.Frames.{frames, rest}
use Rattle.xcp_framing.specs.FramerInput.{BringsNone, Feeds}
use Rattle.xcp_framing.specs.private.MissingBytes.{missing_of}
use Rattle.xcp_framing.proofs.FrameCutLaws.{stays, whole_frame, is_frame-is, len_of-append, cuts_alike}

-- what is no frame
pub held_unfinished : (m : ℕ) (a : List ℕ) → IsUnfinished m a → (frames m a ≡ []) × (a ≡ rest m a)
held_unfinished m a u = let s = stays m [] a u in (s.0, sym s.1)

-- bytes that are fewer than a frame of their LEN has give no packet, and are the rest
pub held_short : (m : ℕ) (a : List ℕ) → length a < 4 + len_of a → (frames m a ≡ []) × (a ≡ rest m a)
held_short m a h = held_unfinished m a (λ k. h)

-- bytes with a LEN above MAX_CTO at their head give no packet, and are the rest
pub held_bad : (m : ℕ) (a : List ℕ) → m < len_of a → (frames m a ≡ []) × (a ≡ rest m a)
held_bad m a h = held_unfinished m a (λ k. absurd (omega (arith, h, k)))

-- what is a frame
pub held_frame : (m : ℕ) (a : List ℕ) → is_frame m a ≡ true → (frames m a ≡ packet_in a) × ([] ≡ rest m a)
held_frame m [] f = absurd (grind (arith, nat_tests, f))
held_frame m (x ∷ a) f = let w = whole_frame m [] x a f in (w.0, sym w.1)

-- a whole frame of LEN 0 gives no packet and leaves no rest
pub held_empty : (m : ℕ) (a : List ℕ) → len_of a ≤ m → length a ≡ 4 + len_of a → length a ≡ 4 → (frames m a ≡ []) × ([] ≡ rest m a)
held_empty m a h k e =
    let w = held_frame m a (is_frame-is m a h k) in
    (w.0 ∙ rw e refl, w.1)

-- a whole frame of another LEN gives the packet behind its four bytes of LEN and CTR and leaves no rest
pub held_packet : (m : ℕ) (a : List ℕ) → len_of a ≤ m → length a ≡ 4 + len_of a → length a ≢ 4 → (frames m a ≡ drop 4 a ∷ []) × ([] ≡ rest m a)
held_packet m a h k e =
    let w = held_frame m a (is_frame-is m a h k) in
    let t : (length a == 4) ≡ false = grind (arith, nat_tests, e) in
    (w.0 ∙ rw t refl, w.1)

-- no frame, and no LEN too great
pub unfinished_none : (m : ℕ) (a : List ℕ) → IsUnfinished m a → ¬ IsBadLength m a → BringsNone m a
unfinished_none m a u f = let w = held_unfinished m a u in record { no_packet = w.0; no_fault = rw (← w.1) f }

-- fewer bytes than are missing bring nothing
pub none_below : (m k : ℕ) (h s : List ℕ) → k < missing_of m h → BringsNone m (h ++ take k s)
none_below m k h s b =
    elim (nat_lt (length h) 2) as (λ t. nat_lt (length h) 2 ≡ t → BringsNone m (h ++ take k s)) [
      | true ↦ λ e.
          let short : k < 2 - length h = rw e at b in
          let total : length (h ++ take k s) < 2 = omega (arith, short, length-append h (take k s), length-take k s) in
          unfinished_none m (h ++ take k s) (λ w. omega (arith, total)) (λ w. omega (arith, total, w.there))
      | false ↦ λ e.
          let two : 2 ≤ length h = grind (arith, nat_tests, e) in
          let same = len_of-append h (take k s) two in
          let rest_of : k < (if nat_lt m (len_of h) then 0 else (4 + len_of h) - length h) = rw e at b in
          let fine : (len_of h ≤ m) × (k < (4 + len_of h) - length h) = (grind (arith, nat_tests, rest_of), grind (arith, nat_tests, rest_of)) in
          let total : length (h ++ take k s) < 4 + len_of h = omega (arith, fine.1, length-append h (take k s), length-take k s) in
          unfinished_none m (h ++ take k s) (λ w. omega (arith, total, same)) (λ w. omega (arith, fine.0, same, w.above))
    ] refl

-- no more than what is missing is no more than a frame
pub at_most_a_frame : (m k : ℕ) (h s : List ℕ) → IsUnfinished m h → k ≤ missing_of m h → len_of (h ++ take k s) ≤ m → length (h ++ take k s) ≤ 4 + len_of (h ++ take k s)
at_most_a_frame m k h s u b =
    elim (nat_lt (length h) 2) as (λ t. nat_lt (length h) 2 ≡ t → len_of (h ++ take k s) ≤ m → length (h ++ take k s) ≤ 4 + len_of (h ++ take k s)) [
      | true ↦ λ e w.
          let short : k ≤ 2 - length h = rw e at b in
          let few : length h < 2 = grind (arith, nat_tests, e) in
          omega (arith, short, few, length-append h (take k s), length-take k s)
      | false ↦ λ e w.
          let two : 2 ≤ length h = grind (arith, nat_tests, e) in
          let same = len_of-append h (take k s) two in
          let rest_of : k ≤ (if nat_lt m (len_of h) then 0 else (4 + len_of h) - length h) = rw e at b in
          let fine : len_of h ≤ m = rw same at w in
          let most : k ≤ (4 + len_of h) - length h = grind (arith, nat_tests, rest_of, fine) in
          let before = u fine in
          omega (arith, most, before, same, length-append h (take k s), length-take k s)
    ] refl

-- only behind a LEN too great nothing is missing
pub missing_none : (m : ℕ) (h : List ℕ) → IsUnfinished m h → missing_of m h ≡ 0 → IsBadLength m h
missing_none m h u z =
    elim (nat_lt (length h) 2) as (λ t. nat_lt (length h) 2 ≡ t → IsBadLength m h) [
      | true ↦ λ e.
          let few : length h < 2 = grind (arith, nat_tests, e) in
          let none : 2 - length h ≡ 0 = rw e at z in
          absurd (omega (arith, few, none))
      | false ↦ λ e.
          let two : 2 ≤ length h = grind (arith, nat_tests, e) in
          let next : (if nat_lt m (len_of h) then 0 else (4 + len_of h) - length h) ≡ 0 = rw e at z in
          elim (nat_lt m (len_of h)) as (λ t. nat_lt m (len_of h) ≡ t → IsBadLength m h) [
            | true ↦ λ g. record { there = two; above = grind (arith, nat_tests, g) }
            | false ↦ λ g.
                let fits : len_of h ≤ m = grind (arith, nat_tests, g) in
                let none : (4 + len_of h) - length h ≡ 0 = rw g at next in
                let before = u fits in
                absurd (omega (arith, before, none))
          ] refl
    ] refl

-- bytes that were missing, or some of them
pub feeds_once : (m k : ℕ) (h s a : List ℕ) {packets : List (List ℕ)} {left : List ℕ} → k ≡ min (missing_of m h) (length s) → a ≡ h ++ take k s → frames m a ≡ packets → left ≡ rest m a → Feeds m h s k packets left
feeds_once m k h s a e g f r = record {
  front = omega (arith, e);
  brings = rw (← g) f;
  leaves = rw (← g) r;
  first = λ j b. none_below m j h s (omega (arith, e, b));
}

-- where no LEN is too great, some of a piece is used
pub moves_on : (m k : ℕ) (h s : List ℕ) → IsUnfinished m h → k ≡ min (missing_of m h) (length s) → ¬ IsBadLength m h → 0 < length s → 0 < k
moves_on m zero h s u e fine some = absurd (fine (missing_none m h u (omega (arith, e, some))))
moves_on m (suc k) h s u e fine some = omega arith

-- a packet takes at least one byte
pub packet_moves_on : (m k : ℕ) (h s : List ℕ) {packets : List (List ℕ)} {left : List ℕ} → IsUnfinished m h → Feeds m h s k packets left → packets ≢ [] → 0 < k
packet_moves_on m zero h s u f some = absurd (some (sym f.brings ∙ ap (frames m) (append-nil h) ∙ (held_unfinished m h u).0))
packet_moves_on m (suc k) h s u f some = omega arith

-- nothing of a piece
pub feeds_none : (m : ℕ) (h s : List ℕ) → IsUnfinished m h → Feeds m h s 0 [] h
feeds_none m h s u =
    let w = held_unfinished m h u in
    record {
      front = omega arith;
      brings = rw (append-nil h) w.0;
      leaves = rw (append-nil h) w.1;
      first = λ j b. absurd (omega (arith, b));
    }

-- one front behind another
pub cut_at : (m i j : ℕ) (h s r : List ℕ) → Feeds m h s i [] r → (frames m (h ++ take (i + j) s) ≡ frames m (r ++ take j (drop i s))) × (rest m (h ++ take (i + j) s) ≡ rest m (r ++ take j (drop i s)))
cut_at m i j h s r f =
    let parts : h ++ take (i + j) s ≡ (h ++ take i s) ++ take j (drop i s) = ap (λ (t : List ℕ). h ++ t) (take-add i j s) ∙ sym (append_assoc h (take i s) (take j (drop i s))) in
    let cut = cuts_alike m (h ++ take i s) (take j (drop i s)) in
    (ap (frames m) parts ∙ cut.0 ∙ rw (f.brings, ← f.leaves) refl, ap (rest m) parts ∙ cut.1 ∙ rw (← f.leaves) refl)

-- a front brings none where its first part brings no packet and its last part brings none behind what that left
pub none_behind : (m i j : ℕ) (h s r : List ℕ) → Feeds m h s i [] r → BringsNone m (r ++ take j (drop i s)) → BringsNone m (h ++ take (i + j) s)
none_behind m i j h s r f q = let c = cut_at m i j h s r f in record { no_packet = c.0 ∙ q.no_packet; no_fault = rw c.1 q.no_fault }

-- a front that brings no packet and the front behind it are one front, which brings what the second does
pub feeds_more : (m i j : ℕ) (h s r t : List ℕ) {packets : List (List ℕ)} {left : List ℕ} → Feeds m h s i [] r → t ≡ drop i s → Feeds m r t j packets left → Feeds m h s (i + j) packets left
feeds_more m i j h s r t f e g =
    let g' = rw e at g in
    let c = cut_at m i j h s r f in
    record {
      front = omega (arith, f.front, g'.front, length-drop i s);
      brings = c.0 ∙ g'.brings;
      leaves = g'.leaves ∙ sym c.1;
      first = λ k b.
          elim (nat_lt k i) as (λ x. nat_lt k i ≡ x → BringsNone m (h ++ take k s)) [
            | true ↦ λ e. f.first k (grind (arith, nat_tests, e))
            | false ↦ λ e.
                let above : i ≤ k = grind (arith, nat_tests, e) in
                let split : i + (k - i) ≡ k = omega (arith, above) in
                let q = none_behind m i (k - i) h s r f (g'.first (k - i) (omega (arith, above, b))) in
                rw split at q
          ] refl;
    }

-- the whole frame at the head of a stream
pub head_frame : (m n : ℕ) (s : List ℕ) → n ≡ len_of s → n ≤ m → 4 + n ≤ length s
    → (frames m s ≡ packet_in (take (4 + n) s) ++ frames m (drop (4 + n) s)) × (rest m s ≡ rest m (drop (4 + n) s))
head_frame m n s e fits there =
    let f = take (4 + n) s in
    let parts : f ++ drop (4 + n) s ≡ s = take-append-drop (4 + n) s in
    let long : length f ≡ 4 + n = omega (arith, length-take (4 + n) s, there) in
    let same : len_of f ≡ len_of s = sym (len_of-append f (drop (4 + n) s) (omega (arith, long))) ∙ ap len_of parts in
    let whole = held_frame m f (is_frame-is m f (omega (arith, same, e, fits)) (omega (arith, long, same, e))) in
    let cut = cuts_alike m f (drop (4 + n) s) in
    (sym (ap (frames m) parts) ∙ cut.0 ∙ rw (whole.0, ← whole.1) refl, sym (ap (rest m) parts) ∙ cut.1 ∙ rw (← whole.1) refl)

-- a front of a whole frame at the head of a stream, shorter than the frame, brings nothing
pub none_inside : (m n k : ℕ) (s : List ℕ) → n ≡ len_of s → n ≤ m → 4 + n ≤ length s → k < 4 + n → BringsNone m (take k s)
none_inside m n k s e fits there b =
    let long : length (take k s) ≡ k = omega (arith, length-take k s, there, b) in
    elim (nat_lt k 2) as (λ t. nat_lt k 2 ≡ t → BringsNone m (take k s)) [
      | true ↦ λ g.
          let few : k < 2 = grind (arith, nat_tests, g) in
          unfinished_none m (take k s) (λ w. omega (arith, long, few)) (λ w. omega (arith, long, few, w.there))
      | false ↦ λ g.
          let two : 2 ≤ k = grind (arith, nat_tests, g) in
          let parts : take k s ++ drop k s ≡ s = take-append-drop k s in
          let same : len_of (take k s) ≡ n = sym (len_of-append (take k s) (drop k s) (omega (arith, long, two))) ∙ ap len_of parts ∙ sym e in
          unfinished_none m (take k s) (λ w. omega (arith, long, b, same)) (λ w. omega (arith, fits, same, w.above))
    ] refl

-- a whole frame of some LEN at the head of a piece, where nothing is held
pub feeds_whole : (m n : ℕ) (s : List ℕ) → n ≡ len_of s → n ≤ m → 0 < n → 4 + n ≤ length s → Feeds m [] s (4 + n) (drop 4 (take (4 + n) s) ∷ []) []
feeds_whole m n s e fits some there =
    let f = take (4 + n) s in
    let parts : f ++ drop (4 + n) s ≡ s = take-append-drop (4 + n) s in
    let long : length f ≡ 4 + n = omega (arith, length-take (4 + n) s, there) in
    let same : len_of f ≡ n = sym (len_of-append f (drop (4 + n) s) (omega (arith, long))) ∙ ap len_of parts ∙ sym e in
    let packet = held_packet m f (omega (arith, same, fits)) (omega (arith, same, long)) (λ four. omega (arith, four, long, some)) in
    record {
      front = there;
      brings = packet.0;
      leaves = packet.1;
      first = λ k b. none_inside m n k s e fits there b;
    }
