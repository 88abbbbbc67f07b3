-- A piece of the stream, of which packets are cut.
use Rattle.std.proofs.Common.{◌≡◌, ℕ, List, [], ◌++◌, length, take, drop, refl, sym, ap, ◌∙◌, arith, append_assoc, length-append}
use Rattle.std.proofs.lemmas.List.{take-append-drop, take_all}
use Rattle.xcp_framing.specs.Wire.{len_of, IsBadLength, IsUnfinished}
use Rattle.xcp_framing.specs.Frames.{frames, rest}
use Rattle.xcp_framing.specs.FramerInput.{Feeds}
use Rattle.xcp_framing.proofs.FrameCutLaws.{cuts_alike, len_of-append}
use Rattle.xcp_framing.proofs.PartialFrameLemmas.{held_unfinished}

-- what stands behind the front that was used
pub ahead : (m j : ℕ) (h t r : List ℕ) {packets : List (List ℕ)} → Feeds m h t j packets r → (frames m (h ++ t) ≡ packets ++ frames m (r ++ drop j t)) × (rest m (h ++ t) ≡ rest m (r ++ drop j t))
ahead m j h t r {packets} f =
    let parts : h ++ t ≡ (h ++ take j t) ++ drop j t = ap (λ (z : List ℕ). h ++ z) (sym (take-append-drop j t)) ∙ sym (append_assoc h (take j t) (drop j t)) in
    let cut = cuts_alike m (h ++ take j t) (drop j t) in
    (ap (frames m) parts ∙ cut.0 ∙ rw (f.brings, ← f.leaves) refl, ap (rest m) parts ∙ cut.1 ∙ rw (← f.leaves) refl)

-- all of a piece, with no packet at its end
pub ahead_none : (m j : ℕ) (h t r : List ℕ) → j ≡ length t → Feeds m h t j [] r → (frames m (h ++ t) ≡ []) × (r ≡ rest m (h ++ t))
ahead_none m j h t r e f =
    let all : take j t ≡ t = take_all j t (omega (arith, e)) in
    let b = f.brings in
    let l = f.leaves in
    (rw all at b, rw all at l)

-- a LEN above m stays at the head
pub bad_stays : (m : ℕ) (r b : List ℕ) → IsBadLength m r → (frames m (r ++ b) ≡ []) × (len_of (rest m (r ++ b)) ≡ len_of r) × IsBadLength m (rest m (r ++ b))
bad_stays m r b f =
    let same = len_of-append r b f.there in
    let u : IsUnfinished m (r ++ b) = λ k. absurd (omega (arith, k, same, f.above)) in
    let w = held_unfinished m (r ++ b) u in
    (w.0, rw (← w.1) same, rw (← w.1) record { there = omega (arith, f.there, length-append r b); above = omega (arith, same, f.above) })
