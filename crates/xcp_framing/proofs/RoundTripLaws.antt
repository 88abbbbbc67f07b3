-- The wire of packets, received.
use Rattle.std.proofs.Common.{◌≡◌, ◌<◌, ◌≤◌, ◌+◌, ◌%◌, ℕ, List, [], ◌∷◌, ◌++◌, All, length, refl, ◌∙◌, arith}
use Rattle.std.proofs.lemmas.List.Elements.{All-head, All-tail}
use Rattle.byteorder.specs.Endian.{little_bytes}
use Rattle.byteorder.specs.Numbers.{little_number-reads_back}
use Rattle.xcp_framing.specs.Wire.{frame_bytes, wire_from, len_of}
use Rattle.xcp_framing.specs.Frames.{frames, rest, WireComesBack}
use Rattle.xcp_framing.proofs.FrameCutLaws.{cuts_alike}
use Rattle.xcp_framing.proofs.PartialFrameLemmas.{held_packet}

-- one frame gives its packet
pub frame_comes_back : (m k : ℕ) (p : List ℕ) → m < 65536 → 0 < length p → length p ≤ m → (frames m (frame_bytes k p) ≡ p ∷ []) × ([] ≡ rest m (frame_bytes k p))
frame_comes_back m k p h some fits =
    let f = frame_bytes k p in
    let told : len_of f ≡ length p = little_number-reads_back 2 (length p) (little_bytes 2 (k % 65536) ++ p) (omega (arith, h, fits)) in
    let long : length f ≡ 4 + length p = omega arith in
    held_packet m f (omega (arith, told, fits)) (omega (arith, told, long)) (omega (arith, long, some))

-- where LEN can tell MAX_CTO, packets of 1 to MAX_CTO bytes come back from frames numbered from k on, with no rest
pub wire_comes_back_from : (m k : ℕ) (packets : List (List ℕ)) → m < 65536 → All (λ p. (0 < length p) × (length p ≤ m)) packets
    → (frames m (wire_from k packets) ≡ packets) × (rest m (wire_from k packets) ≡ [])
wire_comes_back_from m k [] h a = (refl, refl)
wire_comes_back_from m k (p ∷ ps) h a =
    let f = frame_bytes k p in
    let first = All-head (λ (q : List ℕ). (0 < length q) × (length q ≤ m)) p ps a in
    let ih = wire_comes_back_from m (k + 1) ps h (All-tail (λ (q : List ℕ). (0 < length q) × (length q ≤ m)) p ps a) in
    let one = frame_comes_back m k p h first.0 first.1 in
    let cut = cuts_alike m f (wire_from (k + 1) ps) in
    (cut.0 ∙ rw (one.0, ← one.1, ih.0) refl, cut.1 ∙ rw (← one.1) ih.1)

-- where LEN can tell MAX_CTO, packets of 1 to MAX_CTO bytes come back from the wire of a sender, with no rest
pub wire_comes_back : WireComesBack
wire_comes_back m packets h a = wire_comes_back_from m 0 packets h a
