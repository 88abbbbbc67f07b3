-- The whole frames at the front of a datagram.
use Rattle.std.proofs.Common.{◌≡◌, ◌<◌, ◌≤◌, ◌+◌, ◌-◌, ◌==◌, nat_eq, nat_le, take, drop, subst, ℕ, true, false, List, [], ◌∷◌, ◌++◌, length, length-drop, length-append, if◌then◌else◌, refl, sym, ap, ◌∙◌, arith}
use Rattle.std.proofs.lemmas.Bool.Decides.{nat_tests}
use Rattle.std.proofs.lemmas.List.{append-nil, drop-append-le, drop-drop, drop-take, take-append-drop, take_all, length-take}
use Rattle.std.proofs.Math.Seq.{take-add, take-append_seam}
use Rattle.std.specs.List.{flat_map}
use Rattle.std.specs.Prelude.{MatchBool}
use Rattle.byteorder.specs.Endian.{little_number}
use Rattle.xcp_framing.specs.Wire.{len_of, is_frame, packet_in, IsUnfinished, Framed}
use Rattle.xcp_framing.specs.Frames.{frames, rest}
use Rattle.xcp_datagrams.specs.Datagrams.{IsWholeFrames, fits}
use Rattle.xcp_framing.proofs.FrameCutLaws.{cuts_alike, front_unfinished, is_frame-is, len_of-append, unfinished_nil}
use Rattle.xcp_framing.proofs.PartialFrameLemmas.{head_frame, held_frame, held_unfinished}
use Rattle.xcp_framing.proofs.WholeFrameLaws.{framed_from, whole_frames}

-- what is all of a front is the front
pub front_of : (n : ℕ) (xs ys : List ℕ) → length xs ≡ n → take n (xs ++ ys) ≡ xs
front_of n xs ys h = rw (← h) (take-append_seam xs ys)

-- the bytes of a stream's whole frames
pub front_bytes : (m : ℕ) (d : List ℕ) → take (length d - length (rest m d)) d ≡ flat_map (λ (g : List ℕ). g) (framed_from m [] d (unfinished_nil m)).whole
front_bytes m d =
    let w = framed_from m [] d (unfinished_nil m) in
    let whole = flat_map (λ (g : List ℕ). g) w.whole in
    let n = length d - length (rest m d) in
    let long : length whole ≡ n = omega (arith, ap (λ (z : List ℕ). length z) w.joined, length-append whole (rest m d)) in
    ap (take n) w.joined ∙ front_of n whole (rest m d) long

-- these bytes and the rest are all
pub front_and_rest : (m : ℕ) (d : List ℕ) → take (length d - length (rest m d)) d ++ rest m d ≡ d
front_and_rest m d =
    let w = framed_from m [] d (unfinished_nil m) in
    ap (λ (t : List ℕ). t ++ rest m d) (front_bytes m d) ∙ sym w.joined

-- these bytes have the stream's packets, and no rest
pub front_frames : (m : ℕ) (d : List ℕ) → (frames m (take (length d - length (rest m d)) d) ≡ frames m d) × (rest m (take (length d - length (rest m d)) d) ≡ [])
front_frames m d =
    let w = framed_from m [] d (unfinished_nil m) in
    let whole = flat_map (λ (g : List ℕ). g) w.whole in
    let u = whole_frames m w.whole [] w.each (unfinished_nil m) in
    let same : take (length d - length (rest m d)) d ≡ whole ++ [] = front_bytes m d ∙ sym (append-nil whole) in
    (ap (frames m) same ∙ sym u.0 ∙ sym w.packets_of, ap (rest m) same ∙ sym u.1)

-- what a front is where the rest begins behind it
pub front_to : (m at : ℕ) (s : List ℕ) → at ≤ length s → rest m s ≡ drop at s → take at s ≡ take (length s - length (rest m s)) s
front_to m at s within behind =
    let long : length (rest m s) ≡ length s - at = ap (λ (z : List ℕ). length z) behind ∙ length-drop at s in
    ap (λ (i : ℕ). take i s) (omega (arith, within, long))

-- one more whole frame behind the first `at` bytes
pub head_step : (m at k : ℕ) (s : List ℕ) → k ≡ 4 + len_of (drop at s) → len_of (drop at s) ≤ m → k ≤ length (drop at s)
    → (frames m (drop at s) ≡ packet_in (take k (drop at s)) ++ frames m (drop (at + k) s)) × (rest m (drop at s) ≡ rest m (drop (at + k) s)) × (at + k ≤ length s)
head_step m at k s e fits there =
    let t = drop at s in
    let h = head_frame m (len_of t) t refl fits (omega (arith, e, there)) in
    let further : drop (4 + len_of t) t ≡ drop (at + k) s = drop-drop (4 + len_of t) at s ∙ ap (λ (i : ℕ). drop i s) (omega (arith, e)) in
    let same : take (4 + len_of t) t ≡ take k t = ap (λ (i : ℕ). take i t) (sym e) in
    (h.0 ∙ rw (same, further) refl, h.1 ∙ ap (rest m) further, omega (arith, e, there, length-drop at s))

-- the bytes behind the first `at`, as a slice has them
pub slice_all : (at : ℕ) (s : List ℕ) → take (length s - at) (drop at s) ≡ drop at s
slice_all at s = take_all (length s - at) (drop at s) (omega (arith, length-drop at s))

-- the frame at the head is one
pub head_is_frame : (m k : ℕ) (t : List ℕ) → k ≡ 4 + len_of t → len_of t ≤ m → k ≤ length t → is_frame m (take k t) ≡ true
head_is_frame m k t e fits there =
    let long : length (take k t) ≡ k = omega (arith, length-take k t, there) in
    let same : len_of (take k t) ≡ len_of t = sym (len_of-append (take k t) (drop k t) (omega (arith, long, e))) ∙ ap len_of (take-append-drop k t) in
    is_frame-is m (take k t) (omega (arith, same, fits)) (omega (arith, long, same, e))

-- a front of these bytes that has no rest, and one more whole frame, have none
pub none_left_more : (m at k : ℕ) (s : List ℕ) → rest m (take at s) ≡ [] → k ≡ 4 + len_of (drop at s) → len_of (drop at s) ≤ m → k ≤ length (drop at s) → rest m (take (at + k) s) ≡ []
none_left_more m at k s none e fits there =
    let cut = cuts_alike m (take at s) (take k (drop at s)) in
    let one = held_frame m (take k (drop at s)) (head_is_frame m k (drop at s) e fits there) in
    ap (rest m) (take-add at k s) ∙ cut.1 ∙ rw (none) (sym one.1)

-- fewer bytes than the frame at the head has are no whole frame
pub short_front : (m j : ℕ) (t : List ℕ) → j < 4 + len_of t → IsUnfinished m (take j t)
short_front m j t few = λ k.
    elim (nat_le 2 (length (take j t))) as (λ b. nat_le 2 (length (take j t)) ≡ b → length (take j t) < 4 + len_of (take j t)) [
      | true ↦ λ e.
          let two : 2 ≤ length (take j t) = grind (arith, nat_tests, e) in
          let same : len_of (take j t) ≡ len_of t = sym (len_of-append (take j t) (drop j t) two) ∙ ap len_of (take-append-drop j t) in
          omega (arith, few, same, length-take j t)
      | false ↦ λ e.
          let short : length (take j t) < 2 = grind (arith, nat_tests, e) in
          omega (arith, short)
    ] refl

-- no longer front of these bytes has no rest, where what stands behind isn't whole so far
pub none_longer : (m at k : ℕ) (s : List ℕ) → rest m (take at s) ≡ [] → at < k → k ≤ length s → IsUnfinished m (take (k - at) (drop at s)) → rest m (take k s) ≡ [] → ⊥
none_longer m at k s none more within u left =
    let j = k - at in
    let parts : take k s ≡ take at s ++ take j (drop at s) = ap (λ (i : ℕ). take i s) (omega (arith, more)) ∙ take-add at j s in
    let cut = cuts_alike m (take at s) (take j (drop at s)) in
    let held = held_unfinished m (take j (drop at s)) u in
    let nothing : take j (drop at s) ≡ [] = held.1 ∙ sym (ap (rest m) parts ∙ cut.1 ∙ rw (none) refl) ∙ left in
    let long : length (take j (drop at s)) ≡ 0 = ap (λ (z : List ℕ). length z) nothing in
    absurd (omega (arith, long, more, within, length-take j (drop at s), length-drop at s))

-- where what stands behind isn't whole at all, neither is a front of it
pub unfinished_front : (m j : ℕ) (t : List ℕ) → IsUnfinished m t → IsUnfinished m (take j t)
unfinished_front m j t u = front_unfinished m (take j t) (drop j t) (subst (λ (z : List ℕ). IsUnfinished m z) (sym (take-append-drop j t)) u)

-- the packet of the frame at the head, as a slice has it
pub packet_slice : (at k : ℕ) (s : List ℕ) → 4 ≤ k → take ((at + k) - (at + 4)) (drop (at + 4) s) ≡ drop 4 (take k (drop at s))
packet_slice at k s four =
    let size : 4 + (k - 4) ≡ k = omega (arith, four) in
    let behind : drop 4 (drop at s) ≡ drop (at + 4) s = drop-drop 4 at s ∙ ap (λ (i : ℕ). drop i s) (omega arith) in
    ap (λ (i : ℕ). take i (drop (at + 4) s)) (omega (arith, four)) ∙ ap (take (k - 4)) (sym behind) ∙ sym (drop-take 4 (k - 4) (drop at s)) ∙ ap (λ (i : ℕ). drop 4 (take i (drop at s))) size

-- a frame of more than four bytes has a packet, and one of four has none
pub packet_there : (k : ℕ) (t : List ℕ) → 4 < k → k ≤ length t → packet_in (take k t) ≡ drop 4 (take k t) ∷ []
packet_there k t more there =
    let long : length (take k t) ≡ k = omega (arith, length-take k t, there) in
    let no : (length (take k t) == 4) ≡ false = grind (arith, nat_tests, long, more) in
    rw no refl

-- a frame of four bytes has no packet
pub packet_none : (k : ℕ) (t : List ℕ) → k ≤ 4 → 4 ≤ k → k ≤ length t → packet_in (take k t) ≡ []
packet_none k t most least there =
    let long : length (take k t) ≡ k = omega (arith, length-take k t, there) in
    let yes : (length (take k t) == 4) ≡ true = grind (arith, nat_tests, long, most, least) in
    rw yes refl

-- CTR of the frame at the head, as a slice has it
pub ctr_slice : (at k : ℕ) (s : List ℕ) → 4 ≤ k → k ≤ length (drop at s) → little_number 2 (drop (at + 2) s) ≡ little_number 2 (drop 2 (take k (drop at s)))
ctr_slice at k s four there =
    let t = drop at s in
    let f = take k t in
    let long : length f ≡ k = omega (arith, length-take k t, there) in
    let tail : drop 2 t ≡ drop 2 f ++ drop k t = ap (drop 2) (sym (take-append-drop k t)) ∙ drop-append-le 2 f (drop k t) (omega (arith, long, four)) in
    let there' : drop (at + 2) s ≡ drop 2 t = sym (drop-drop 2 at s ∙ ap (λ (i : ℕ). drop i s) (omega arith)) in
    ap len_of (there' ∙ tail) ∙ len_of-append (drop 2 f) (drop k t) (omega (arith, long, four, length-drop 2 f))

-- no longer front of these bytes is a datagram of whole frames
pub none_fits : (m at : ℕ) (s : List ℕ) → rest m (take at s) ≡ [] → ((k : ℕ) → at < k → k ≤ length s → k ≤ 1472 → IsUnfinished m (take (k - at) (drop at s)))
    → (k : ℕ) → at < k → k ≤ length s → IsWholeFrames m (take k s) → ⊥
none_fits m at s none behind k more within w =
    let fit : length (take k s) ≤ 1472 = grind (arith, nat_tests, w.fitting) in
    none_longer m at k s none more within (behind k more within (omega (arith, fit, within, length-take k s))) w.none_left

-- a list without an element is the empty one
none_of : (xs : List ℕ) → length xs ≡ 0 → xs ≡ []
none_of [] h = refl
none_of (x ∷ xs) h = absurd (omega (arith, h))

-- a datagram is whole frames exactly where its front is all of it
pub whole_where : (m n size : ℕ) (d : List ℕ) → fits d ≡ true → size ≡ length d → n ≤ length d → drop n d ≡ rest m d → MatchBool (nat_eq n size) (IsWholeFrames m d) (¬ (IsWholeFrames m d))
whole_where m n size d f e within left =
    elim (nat_eq n size) as (λ b. nat_eq n size ≡ b → MatchBool b (IsWholeFrames m d) (¬ (IsWholeFrames m d))) [
      | true ↦ λ q.
          let all : n ≡ length d = grind (arith, nat_tests, q, e) in
          record { fitting = f; none_left = sym left ∙ none_of (drop n d) (omega (arith, all, length-drop n d)) }
      | false ↦ λ q w.
          let long : length (drop n d) ≡ 0 = ap (λ (z : List ℕ). length z) (left ∙ w.none_left) in
          absurd (grind (arith, nat_tests, q, e, long, within, length-drop n d))
    ] refl
