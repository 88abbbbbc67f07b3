-- The frames of a stream, cut anywhere.
use Rattle.std.proofs.Common.{◌≡◌, ◌≢◌, ◌<◌, ◌≤◌, ◌+◌, nat_le, ℕ, true, false, List, [], ◌∷◌, ◌++◌, length, get_or, if◌then◌else◌, refl, sym, ap, ◌∙◌, arith, append_assoc, length-append}
use Rattle.std.proofs.lemmas.List.{append-nil, get_or_append_left}
use Rattle.std.proofs.lemmas.Bool.Decides.{nat_tests}
use Rattle.std.proofs.lemmas.Bool.{false≢true}
use Rattle.xcp_framing.specs.Wire.{len_of, is_frame, packet_in, IsUnfinished}
use Rattle.xcp_framing.specs.Frames.{frames_from, rest_from, frames, rest, CutsAlike}

-- LEN stands in the first two bytes
pub len_of-append : (a b : List ℕ) → 2 ≤ length a → len_of (a ++ b) ≡ len_of a
len_of-append a b h =
    let x : get_or (a ++ b) 0 0 ≡ get_or a 0 0 = get_or_append_left a b 0 0 (omega arith) in
    let y : get_or (a ++ b) 1 0 ≡ get_or a 1 0 = get_or_append_left a b 0 1 (omega arith) in
    rw (x, y) refl

-- what a whole frame is, in numbers
pub is_frame-true : (m : ℕ) (a : List ℕ) → is_frame m a ≡ true → (len_of a ≤ m) × (length a ≡ 4 + len_of a)
is_frame-true m a h = (grind (arith, nat_tests, h), grind (arith, nat_tests, h))

-- bytes are one whole frame where LEN is at most MAX_CTO and there are four more of them than LEN tells
pub is_frame-is : (m : ℕ) (a : List ℕ) → len_of a ≤ m → length a ≡ 4 + len_of a → is_frame m a ≡ true
is_frame-is m a h k = grind (arith, nat_tests, h, k)

-- bytes are no whole frame where LEN is above MAX_CTO, or there aren't four more of them than LEN tells
pub is_frame-false : (m : ℕ) (a : List ℕ) → (len_of a ≤ m → length a ≢ 4 + len_of a) → is_frame m a ≡ false
is_frame-false m a h = grind (arith, nat_tests, h)

-- a front of what is no frame is none
pub front_unfinished : (m : ℕ) (a b : List ℕ) → IsUnfinished m (a ++ b) → IsUnfinished m a
front_unfinished m a b h = λ k.
    elim (nat_le 2 (length a)) as (λ t. nat_le 2 (length a) ≡ t → length a < 4 + len_of a) [
      | true ↦ λ e.
          let two : 2 ≤ length a = grind (arith, nat_tests, e) in
          let same = len_of-append a b two in
          let long : length (a ++ b) < 4 + len_of (a ++ b) = h (rw same k) in
          omega (arith, long, same, length-append a b)
      | false ↦ λ e.
          let short : length a < 2 = grind (arith, nat_tests, e) in
          omega (arith, short)
    ] refl

-- a front of a frame is none
pub front_of_frame : (m x : ℕ) (a b : List ℕ) → is_frame m (a ++ x ∷ b) ≡ true → IsUnfinished m a
front_of_frame m x a b h = λ k.
    elim (nat_le 2 (length a)) as (λ t. nat_le 2 (length a) ≡ t → length a < 4 + len_of a) [
      | true ↦ λ e.
          let two : 2 ≤ length a = grind (arith, nat_tests, e) in
          let same = len_of-append a (x ∷ b) two in
          omega (arith, (is_frame-true m (a ++ x ∷ b) h).1, same, length-append a (x ∷ b))
      | false ↦ λ e.
          let short : length a < 2 = grind (arith, nat_tests, e) in
          omega (arith, short)
    ] refl

-- bytes with no whole frame at their head are no whole frame
pub unfinished_is_no_frame : (m : ℕ) (a : List ℕ) → IsUnfinished m a → is_frame m a ≡ false
unfinished_is_no_frame m a h = is_frame-false m a (λ k. omega (arith, h k))

-- nothing is no frame
pub unfinished_nil : (m : ℕ) → IsUnfinished m []
unfinished_nil m = λ k. omega arith

-- one byte more than what is no frame is a frame, or is none
pub unfinished_more : (m x : ℕ) (a : List ℕ) → IsUnfinished m a → is_frame m (a ++ x ∷ []) ≡ false → IsUnfinished m (a ++ x ∷ [])
unfinished_more m x a h f = λ k.
    elim (nat_le 2 (length a)) as (λ t. nat_le 2 (length a) ≡ t → length (a ++ x ∷ []) < 4 + len_of (a ++ x ∷ [])) [
      | true ↦ λ e.
          let two : 2 ≤ length a = grind (arith, nat_tests, e) in
          let same = len_of-append a (x ∷ []) two in
          let before : length a < 4 + len_of a = h (rw same at k) in
          let not_whole : length (a ++ x ∷ []) ≢ 4 + len_of (a ++ x ∷ []) = λ w. false≢true (sym f ∙ is_frame-is m (a ++ x ∷ []) k w) in
          omega (arith, before, same, not_whole, length-append a (x ∷ []))
      | false ↦ λ e.
          let short : length a < 2 = grind (arith, nat_tests, e) in
          omega (arith, short, length-append a (x ∷ []))
    ] refl

-- What is no frame stays, and gives no packet.
pub stays : (m : ℕ) (h s : List ℕ) → IsUnfinished m (h ++ s) → (frames_from m h s ≡ []) × (rest_from m h s ≡ h ++ s)
stays m h [] u = (refl, sym (append-nil h))
stays m h (x ∷ s) u =
    let whole : (h ++ x ∷ []) ++ s ≡ h ++ x ∷ s = append_assoc h (x ∷ []) s in
    let v : IsUnfinished m ((h ++ x ∷ []) ++ s) = rw whole u in
    let no : is_frame m (h ++ x ∷ []) ≡ false = unfinished_is_no_frame m (h ++ x ∷ []) (front_unfinished m (h ++ x ∷ []) s v) in
    let ih = stays m (h ++ x ∷ []) s v in
    (rw no ih.0, rw no (ih.1 ∙ whole))

-- A frame gives its packet, at its last byte.
pub whole_frame : (m : ℕ) (h : List ℕ) (x : ℕ) (s : List ℕ) → is_frame m (h ++ x ∷ s) ≡ true → (frames_from m h (x ∷ s) ≡ packet_in (h ++ x ∷ s)) × (rest_from m h (x ∷ s) ≡ [])
whole_frame m h x [] f = (rw f (append-nil (packet_in (h ++ x ∷ []))), rw f refl)
whole_frame m h x (y ∷ s) f =
    let whole : (h ++ x ∷ []) ++ y ∷ s ≡ h ++ x ∷ y ∷ s = append_assoc h (x ∷ []) (y ∷ s) in
    let g : is_frame m ((h ++ x ∷ []) ++ y ∷ s) ≡ true = rw whole f in
    let no : is_frame m (h ++ x ∷ []) ≡ false = unfinished_is_no_frame m (h ++ x ∷ []) (front_of_frame m y (h ++ x ∷ []) s g) in
    let ih = whole_frame m (h ++ x ∷ []) y s g in
    (rw no (ih.0 ∙ ap packet_in whole), rw no ih.1)

-- what is held in the end is no frame
pub rest_unfinished : (m : ℕ) (h s : List ℕ) → IsUnfinished m h → IsUnfinished m (rest_from m h s)
rest_unfinished m h [] u = u
rest_unfinished m h (x ∷ s) u =
    elim (is_frame m (h ++ x ∷ [])) as (λ t. is_frame m (h ++ x ∷ []) ≡ t → IsUnfinished m (if t then rest_from m [] s else rest_from m (h ++ x ∷ []) s)) [
      | true ↦ λ e. rest_unfinished m [] s (unfinished_nil m)
      | false ↦ λ e. rest_unfinished m (h ++ x ∷ []) s (unfinished_more m x h u e)
    ] refl

-- bytes behind bytes
pub frames_from-append : (m : ℕ) (h a b : List ℕ) → frames_from m h (a ++ b) ≡ frames_from m h a ++ frames_from m (rest_from m h a) b
frames_from-append m h [] b = refl
frames_from-append m h (x ∷ a) b =
    elim (is_frame m (h ++ x ∷ [])) as (λ t.
    (if t then packet_in (h ++ x ∷ []) ++ frames_from m [] (a ++ b) else frames_from m (h ++ x ∷ []) (a ++ b))
    ≡ (if t then packet_in (h ++ x ∷ []) ++ frames_from m [] a else frames_from m (h ++ x ∷ []) a) ++ frames_from m (if t then rest_from m [] a else rest_from m (h ++ x ∷ []) a) b) [
      | true ↦ ap (λ (ps : List (List ℕ)). packet_in (h ++ x ∷ []) ++ ps) (frames_from-append m [] a b) ∙ sym (append_assoc (packet_in (h ++ x ∷ [])) (frames_from m [] a) (frames_from m (rest_from m [] a) b))
      | false ↦ frames_from-append m (h ++ x ∷ []) a b
    ]

-- the bytes held after two pieces are those held after the second one, behind what the first one left
pub rest_from-append : (m : ℕ) (h a b : List ℕ) → rest_from m h (a ++ b) ≡ rest_from m (rest_from m h a) b
rest_from-append m h [] b = refl
rest_from-append m h (x ∷ a) b =
    elim (is_frame m (h ++ x ∷ [])) as (λ t.
    (if t then rest_from m [] (a ++ b) else rest_from m (h ++ x ∷ []) (a ++ b))
    ≡ rest_from m (if t then rest_from m [] a else rest_from m (h ++ x ∷ []) a) b) [
      | true ↦ rest_from-append m [] a b
      | false ↦ rest_from-append m (h ++ x ∷ []) a b
    ]

-- what is held may stand before the bytes as well
pub frames-held : (m : ℕ) (h b : List ℕ) → IsUnfinished m h → frames m (h ++ b) ≡ frames_from m h b
frames-held m h b u =
    let s = stays m [] h u in
    frames_from-append m [] h b ∙ rw (s.0, s.1) refl

-- the rest is the same where the held bytes, with no whole frame at their head, stand before the others
pub rest-held : (m : ℕ) (h b : List ℕ) → IsUnfinished m h → rest m (h ++ b) ≡ rest_from m h b
rest-held m h b u = rest_from-append m [] h b ∙ rw ((stays m [] h u).1) refl

-- any cutting gives the same frames, and the same rest
pub cuts_alike : CutsAlike
cuts_alike m a b =
    let u = rest_unfinished m [] a (unfinished_nil m) in (
      frames_from-append m [] a b ∙ ap (λ (ps : List (List ℕ)). frames m a ++ ps) (sym (frames-held m (rest m a) b u)),
      rest_from-append m [] a b ∙ sym (rest-held m (rest m a) b u),
    )
