-- Frames that come one behind another.
use Rattle.std.proofs.Common.{◌≡◌, ◌≤◌, ◌+◌, take, drop, ℕ, List, [], ◌∷◌, ◌++◌, All, IsTrue, true, length, map, refl, sym, ap, subst, ◌∙◌, append_assoc, arith}
use Rattle.std.proofs.lemmas.List.{append-nil, drop-drop, map-append, take-append-drop}
use Rattle.std.proofs.lemmas.List.Concat.{flat_map-cons}
use Rattle.std.proofs.lemmas.List.Elements.{All-append, All-cons}
use Rattle.std.proofs.lemmas.Grind.{flat_map-append}
use Rattle.std.specs.List.{flat_map}
use Rattle.byteorder.specs.Endian.{little_number}
use Rattle.xcp_framing.specs.Wire.{len_of, is_frame, packet_in, IsUnfinished}
use Rattle.xcp_datagrams.specs.Numbers.{Heard, CountsFrame, HearsAll, HearsFrames, ctr_of}
use Rattle.xcp_datagrams.proofs.FrontLemmas.{ctr_slice, head_is_frame}

-- one more behind them
pub hears_more : (a : Heard) (ctrs : List ℕ) (b : Heard) (ctr : ℕ) (c : Heard) → HearsAll a ctrs b → CountsFrame b ctr c → HearsAll a (ctrs ++ ctr ∷ []) c
hears_more a [] b ctr c h s = (c, subst (λ (x : Heard). CountsFrame x ctr c) h s, refl)
hears_more a (x ∷ xs) b ctr c h s = (h.0, h.1, hears_more h.0 xs b ctr c h.2 s)

-- the whole frames among the first `at` bytes came
pub record HeardSoFar (m : ℕ) (s : List ℕ) (at : ℕ) (old new : Heard) : Type 0 where
  pub whole : List (List ℕ)
  pub each : All (λ frame. IsTrue (is_frame m frame)) whole
  pub joined : s ≡ flat_map (λ frame. frame) whole ++ drop at s
  pub heard : HearsAll old (map ctr_of whole) new

-- none came yet
pub heard_none : (m : ℕ) (s : List ℕ) (a : Heard) → HeardSoFar m s 0 a a
heard_none m s a = record { whole = []; each = λ i d b. absurd (omega (arith, b)); joined = refl; heard = refl }

-- and one more
pub heard_one : (m at k : ℕ) (s : List ℕ) (a b c : Heard) → HeardSoFar m s at a b → k ≡ 4 + len_of (drop at s) → len_of (drop at s) ≤ m → k ≤ length (drop at s)
    → CountsFrame b (little_number 2 (drop (at + 2) s)) c → HeardSoFar m s (at + k) a c
heard_one m at k s a b c h e fits there step =
    let f = take k (drop at s) in
    let one = head_is_frame m k (drop at s) e fits there in
    let tail : drop at s ≡ f ++ drop (at + k) s = sym (take-append-drop k (drop at s)) ∙ ap (λ (z : List ℕ). f ++ z) (drop-drop k at s ∙ ap (λ (i : ℕ). drop i s) (omega arith)) in
    let flat : flat_map (λ (g : List ℕ). g) (h.whole ++ f ∷ []) ≡ flat_map (λ (g : List ℕ). g) h.whole ++ f = flat_map-append (λ (g : List ℕ). g) h.whole (f ∷ []) ∙ ap (λ (z : List ℕ). flat_map (λ (g : List ℕ). g) h.whole ++ z) (flat_map-cons (λ (g : List ℕ). g) f [] ∙ append-nil f) in
    record {
      whole = h.whole ++ f ∷ [];
      each = All-append (λ (g : List ℕ). IsTrue (is_frame m g)) h.whole (f ∷ []) h.each (All-cons (λ (g : List ℕ). IsTrue (is_frame m g)) f [] one (λ i d b. absurd (omega (arith, b))));
      joined = h.joined ∙ ap (λ (z : List ℕ). flat_map (λ (g : List ℕ). g) h.whole ++ z) tail ∙ sym (append_assoc (flat_map (λ (g : List ℕ). g) h.whole) f (drop (at + k) s)) ∙ ap (λ (z : List ℕ). z ++ drop (at + k) s) (sym flat);
      heard = subst (λ (ctrs : List ℕ). HearsAll a ctrs c) (sym (map-append ctr_of h.whole (f ∷ [])))
          (hears_more a (map ctr_of h.whole) b (ctr_of f) c h.heard (subst (λ (ctr : ℕ). CountsFrame b ctr c) (ctr_slice at k s (omega (arith, e)) there) step));
    }

-- no whole frame is left
pub heard_all : (m at : ℕ) (s : List ℕ) (a b : Heard) → HeardSoFar m s at a b → IsUnfinished m (drop at s) → HearsFrames m s a b
heard_all m at s a b h u = record {
  packets = flat_map packet_in h.whole;
  left = drop at s;
  framed = record { whole = h.whole; each = h.each; joined = h.joined; unfinished = u; packets_of = refl };
  heard = h.heard;
}
