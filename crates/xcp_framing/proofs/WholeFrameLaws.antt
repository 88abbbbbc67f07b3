-- A stream is whole frames and a rest, in one way.
use Rattle.std.proofs.Common.{◌≤◌, ◌-◌, take, drop, subst, length-drop, ◌≡◌, ◌+◌, ℕ, true, false, IsTrue, List, [], ◌∷◌, ◌++◌, All, length, if◌then◌else◌, refl, sym, ap, ◌∙◌, arith, append_assoc}
use Rattle.std.proofs.lemmas.List.{append-nil, drop-drop}
use Rattle.std.proofs.lemmas.List.Concat.{flat_map-cons}
use Rattle.std.proofs.lemmas.List.Elements.{All-cons, All-tail, All-head}
use Rattle.std.specs.List.{flat_map}
use Rattle.std.specs.Prelude.{Option, Some, None, IfNone}
use Rattle.xcp_framing.specs.Wire.{len_of, is_frame, packet_in, IsUnfinished, Framed}
use Rattle.xcp_framing.specs.Frames.{frames_from, rest_from, frames, rest, FramesAreFramed}
use Rattle.xcp_framing.proofs.FrameCutLaws.{unfinished_nil, unfinished_more, cuts_alike}
use Rattle.xcp_framing.proofs.PartialFrameLemmas.{held_unfinished, held_frame, head_frame}

-- one more whole frame at the front
pub framed_more : (m : ℕ) (f s : List ℕ) (packets : List (List ℕ)) (left : List ℕ) → is_frame m f ≡ true → Framed m s packets left → Framed m (f ++ s) (packet_in f ++ packets) left
framed_more m f s packets left h x = record {
  whole = f ∷ x.whole;
  each = All-cons (λ (g : List ℕ). IsTrue (is_frame m g)) f x.whole h x.each;
  joined = ap (λ (t : List ℕ). f ++ t) x.joined ∙ sym (append_assoc f (flat_map (λ (g : List ℕ). g) x.whole) left) ∙ ap (λ (t : List ℕ). t ++ left) (sym (flat_map-cons (λ (g : List ℕ). g) f x.whole));
  unfinished = x.unfinished;
  packets_of = ap (λ (t : List (List ℕ)). packet_in f ++ t) x.packets_of ∙ sym (flat_map-cons packet_in f x.whole);
}

-- held bytes with no whole frame at their head, and those behind them, are whole frames and a rest
pub framed_from : (m : ℕ) (h s : List ℕ) → IsUnfinished m h → Framed m (h ++ s) (frames_from m h s) (rest_from m h s)
framed_from m h [] u = record { whole = []; each = λ i d b. absurd (omega (arith, b)); joined = append-nil h; unfinished = u; packets_of = refl }
framed_from m h (x ∷ s) u =
    let parts : (h ++ x ∷ []) ++ s ≡ h ++ x ∷ s = append_assoc h (x ∷ []) s in
    rw (← parts)
    (elim (is_frame m (h ++ x ∷ [])) as (λ t. is_frame m (h ++ x ∷ []) ≡ t → Framed m ((h ++ x ∷ []) ++ s) (if t then packet_in (h ++ x ∷ []) ++ frames_from m [] s else frames_from m (h ++ x ∷ []) s) (if t then rest_from m [] s else rest_from m (h ++ x ∷ []) s)) [
      | true ↦ λ e. framed_more m (h ++ x ∷ []) s (frames_from m [] s) (rest_from m [] s) e (framed_from m [] s (unfinished_nil m))
      | false ↦ λ e. framed_from m (h ++ x ∷ []) s (unfinished_more m x h u e)
    ] refl)

-- whole frames in a row have their stream's packets, and what follows, with no whole frame, is its rest
pub whole_frames : (m : ℕ) (whole : List (List ℕ)) (left : List ℕ) → All (λ f. IsTrue (is_frame m f)) whole → IsUnfinished m left
    → (flat_map packet_in whole ≡ frames m (flat_map (λ f. f) whole ++ left)) × (left ≡ rest m (flat_map (λ f. f) whole ++ left))
whole_frames m [] left a u = let w = held_unfinished m left u in (sym w.0, w.1)
whole_frames m (f ∷ fs) left a u =
    let tail = flat_map (λ (g : List ℕ). g) fs ++ left in
    let joined : flat_map (λ (g : List ℕ). g) (f ∷ fs) ++ left ≡ f ++ tail = ap (λ (t : List ℕ). t ++ left) (flat_map-cons (λ (g : List ℕ). g) f fs) ∙ append_assoc f (flat_map (λ (g : List ℕ). g) fs) left in
    let ih = whole_frames m fs left (All-tail (λ (g : List ℕ). IsTrue (is_frame m g)) f fs a) u in
    let first = held_frame m f (All-head (λ (g : List ℕ). IsTrue (is_frame m g)) f fs a) in
    let cut = cuts_alike m f tail in (
      flat_map-cons packet_in f fs ∙ ap (λ (t : List (List ℕ)). packet_in f ++ t) ih.0 ∙ sym (ap (frames m) joined ∙ cut.0 ∙ rw (first.0, ← first.1) refl),
      ih.1 ∙ sym (ap (rest m) joined ∙ cut.1 ∙ rw (← first.1) refl),
    )

-- where a stream is whole frames and a rest, it has these frames' packets, and this is its rest
pub framed_once : (m : ℕ) (stream : List ℕ) (packets : List (List ℕ)) (left : List ℕ) → Framed m stream packets left → (packets ≡ frames m stream) × (left ≡ rest m stream)
framed_once m stream packets left x =
    let w = whole_frames m x.whole left x.each x.unfinished in
    (x.packets_of ∙ rw (x.joined) w.0, rw (x.joined) w.1)

-- each stream is whole frames and a rest, in exactly one way
pub frames_are_framed : FramesAreFramed
frames_are_framed m stream packets left =
    (framed_once m stream packets left, λ h. rw (h.0, h.1) (framed_from m [] stream (unfinished_nil m)))

-- one more whole frame of a stream, behind its first `at` bytes
pub plain_step : (m at n : ℕ) (s t f : List ℕ) (items items' : List (List ℕ))
    → frames m s ≡ items ++ frames m (drop at s) → rest m s ≡ rest m (drop at s) → at ≤ length s
    → t ≡ drop at s → n ≡ len_of t → n ≤ m → 4 + n ≤ length t → f ≡ take (4 + n) t → items' ≡ items ++ packet_in f
    → (frames m s ≡ items' ++ frames m (drop ((at + 4) + n) s)) × (rest m s ≡ rest m (drop ((at + 4) + n) s)) × ((at + 4) + n ≤ length s)
plain_step m at n s t f items items' inv behind within e l fits there g k =
    let step = head_frame m n t l fits there in
    let further : drop (4 + n) t ≡ drop ((at + 4) + n) s = ap (drop (4 + n)) e ∙ drop-drop (4 + n) at s ∙ ap (λ (i : ℕ). drop i s) (omega arith) in
    let now : frames m t ≡ packet_in f ++ frames m (drop ((at + 4) + n) s) = step.0 ∙ rw (g, further) refl in
    let long : length t ≡ length s - at = ap (λ (z : List ℕ). length z) e ∙ length-drop at s in (
      inv ∙ rw (← e, k) (ap (λ (z : List (List ℕ)). items ++ z) now ∙ sym (append_assoc items (packet_in f) (frames m (drop ((at + 4) + n) s)))),
      behind ∙ rw (← e) (step.1 ∙ ap (rest m) further),
      omega (arith, there, long, within),
    )

-- no whole frame is left
pub plain_end : (m at : ℕ) (s t : List ℕ) (items : List (List ℕ))
    → frames m s ≡ items ++ frames m (drop at s) → rest m s ≡ rest m (drop at s) → t ≡ drop at s → IsUnfinished m t → Framed m s items (drop at s)
plain_end m at s t items inv behind e u =
    let u' : IsUnfinished m (drop at s) = subst (λ (z : List ℕ). IsUnfinished m z) e u in
    let w = held_unfinished m (drop at s) u' in
    let all : items ≡ frames m s = sym (inv ∙ rw (w.0) (append-nil items)) in
    (frames_are_framed m s items (drop at s)).1 (all, w.1 ∙ sym behind)

-- what holds where there is no value holds, if there can't be one
pub no_some : {A : Type 0} {P : Type 0} (o : Option A) → IfNone o P → ((x : A) → o ≡ Some x → ⊥) → P
no_some None h k = h
no_some (Some x) h k = absurd (k x refl)
