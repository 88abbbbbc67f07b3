-- Frames on a stream (ASAM MCD-1 XCP, transport layer, XCP on Ethernet: the header's LEN and CTR, TCP).
use Rattle.std.specs.Prelude.{◌≡◌, ◌+◌, ◌<◌, ◌≤◌, ◌%◌, ◌==◌, ◌&&◌, ℕ, Bool, IsTrue, List, [], ◌∷◌, ◌++◌, All, length, drop, nat_le, if◌then◌else◌}
use Rattle.std.specs.List.{flat_map}
use Rattle.byteorder.specs.Endian.{little_bytes, little_number}

-- The k-th frame of a sender, from 0: LEN, which is the number of the packet's bytes, CTR, and the packet. LEN and CTR
-- are words with their low byte first. CTR counts the frames, and starts anew after 65,535.
abbrev pub frame_bytes : ℕ → List ℕ → List ℕ
frame_bytes k packet = little_bytes 2 (length packet) ++ little_bytes 2 (k % 65536) ++ packet

-- the frames of packets, of which the first is the k-th
abbrev pub wire_from : ℕ → List (List ℕ) → List ℕ
wire_from k [] = []
wire_from k (packet ∷ packets) = frame_bytes k packet ++ wire_from (k + 1) packets

-- what a sender puts on the wire: for the k-th packet, from 0, its frame
abbrev pub wire : List (List ℕ) → List ℕ
wire packets = wire_from 0 packets

-- LEN, the word at the head of a frame
abbrev pub len_of : List ℕ → ℕ
len_of bytes = little_number 2 bytes

-- The bytes are one whole frame, of at most m (MAX_CTO) bytes of packet. CTR may be any.
abbrev pub is_frame : ℕ → List ℕ → Bool
is_frame m bytes = nat_le (len_of bytes) m && (length bytes == 4 + len_of bytes)

-- the packet of a whole frame; a frame of LEN 0 holds none
abbrev pub packet_in : List ℕ → List (List ℕ)
packet_in frame = if length frame == 4 then [] else drop 4 frame ∷ []

-- No whole frame stands at the head: bytes are missing, unless LEN is above m anyway.
abbrev pub IsUnfinished : ℕ → List ℕ → Type 0
IsUnfinished m bytes = len_of bytes ≤ m → length bytes < 4 + len_of bytes

-- both bytes of a LEN above m stand at the head
pub record IsBadLength (m : ℕ) (bytes : List ℕ) : Type 0 where
  pub there : 2 ≤ length bytes
  pub above : m < len_of bytes

-- The packets of a stream, and what is left of it: the stream is whole frames, one behind another, up to its end or to
-- the first LEN above m (MAX_CTO), and the packets are those of these frames, in order.
pub record Framed (m : ℕ) (stream : List ℕ) (packets : List (List ℕ)) (left : List ℕ) : Type 0 where
  -- the whole frames
  pub whole : List (List ℕ)
  pub each : All (λ frame. IsTrue (is_frame m frame)) whole
  pub joined : stream ≡ flat_map (λ frame. frame) whole ++ left
  pub unfinished : IsUnfinished m left
  pub packets_of : packets ≡ flat_map packet_in whole
