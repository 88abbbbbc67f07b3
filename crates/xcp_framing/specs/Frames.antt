-- The packets of a stream and its rest, as functions. They say what the relation `Framed` of specs/Wire.antt says, which
-- is the law at the end of this file (ASAM MCD-1 XCP, transport layer, XCP on Ethernet: TCP).
use Rattle.std.specs.Prelude.{◌≡◌, ◌<◌, ◌≤◌, ◌↔◌, ℕ, List, [], ◌∷◌, ◌++◌, All, length, if◌then◌else◌}
use Rattle.xcp_framing.specs.Wire.{is_frame, packet_in, wire, Framed}

-- Bytes gather behind those that are held until they are a whole frame; then comes its packet, and it begins anew.
abbrev pub frames_from : ℕ → List ℕ → List ℕ → List (List ℕ)
frames_from m held [] = []
frames_from m held (b ∷ bytes) =
    if is_frame m (held ++ b ∷ []) then packet_in (held ++ b ∷ []) ++ frames_from m [] bytes else frames_from m (held ++ b ∷ []) bytes

-- the bytes that are held in the end
abbrev pub rest_from : ℕ → List ℕ → List ℕ → List ℕ
rest_from m held [] = held
rest_from m held (b ∷ bytes) =
    if is_frame m (held ++ b ∷ []) then rest_from m [] bytes else rest_from m (held ++ b ∷ []) bytes

-- The packets of the stream's whole frames, up to its end or the first LEN above m (MAX_CTO).
abbrev pub frames : ℕ → List ℕ → List (List ℕ)
frames m stream = frames_from m [] stream

-- what stands behind these frames: part of a frame, or a LEN above m and all that follows
abbrev pub rest : ℕ → List ℕ → List ℕ
rest m stream = rest_from m [] stream

-- A law: any cutting of a stream gives the same frames, and the same rest.
abbrev pub CutsAlike : Type 0
CutsAlike = (m : ℕ) (a b : List ℕ) → (frames m (a ++ b) ≡ frames m a ++ frames m (rest m a ++ b)) × (rest m (a ++ b) ≡ rest m (rest m a ++ b))

-- A law: each stream is whole frames and a rest, in exactly one way.
abbrev pub FramesAreFramed : Type 0
FramesAreFramed = (m : ℕ) (stream : List ℕ) (packets : List (List ℕ)) (left : List ℕ) → Framed m stream packets left ↔ ((packets ≡ frames m stream) × (left ≡ rest m stream))

-- A law: the frames that a sender puts on the wire give a receiver the same packets. They have 1 to m bytes each, and LEN
-- can tell m.
abbrev pub WireComesBack : Type 0
WireComesBack = (m : ℕ) (packets : List (List ℕ)) → m < 65536 → All (λ packet. (0 < length packet) × (length packet ≤ m)) packets
    → (frames m (wire packets) ≡ packets) × (rest m (wire packets) ≡ [])
