-- Frames in datagrams (ASAM MCD-1 XCP, transport layer, XCP on Ethernet: UDP).
use Rattle.std.specs.Prelude.{◌≡◌, ◌<◌, ◌≤◌, ◌-◌, ◌==◌, ◌&&◌, ℕ, Bool, true, false, List, [], ◌∷◌, ◌++◌, All, length, take, get_or, nat_le, if◌then◌else◌}
use Rattle.std.specs.List.{flat_map}
use Rattle.xcp_framing.specs.Wire.{Framed, wire}
use Rattle.xcp_framing.specs.Frames.{frames, rest}

-- the most bytes of a datagram: an Ethernet packet's 1,500, less the headers of IP and UDP
abbrev pub longest : ℕ
longest = 1472

-- a datagram has at least a byte, and not too many
abbrev pub fits : List ℕ → Bool
fits datagram = nat_le 1 (length datagram) && nat_le (length datagram) longest

-- The packets of a datagram: those of its whole frames, one behind another, up to its end or to the first that isn't whole or has a
-- LEN above m (MAX_CTO). A datagram that doesn't fit holds none.
abbrev pub datagram_frames : ℕ → List ℕ → List (List ℕ)
datagram_frames m datagram = if fits datagram then frames m datagram else []

-- the bytes of these frames, which stand at the front
abbrev pub front : ℕ → List ℕ → List ℕ
front m datagram = if fits datagram then take (length datagram - length (rest m datagram)) datagram else []

-- a datagram is whole frames
pub record IsWholeFrames (m : ℕ) (datagram : List ℕ) : Type 0 where
  pub fitting : fits datagram ≡ true
  pub none_left : rest m datagram ≡ []

-- A law: the frames of a datagram are the ones that the same bytes have as a stream. So where it is whole frames, it means what these
-- bytes mean as a stream; and else what its front means, which is all of it but the stream's rest.
abbrev pub DatagramIsAStream : Type 0
DatagramIsAStream = (m : ℕ) (datagram : List ℕ) → fits datagram ≡ true
    → Framed m datagram (datagram_frames m datagram) (rest m datagram) × (front m datagram ++ rest m datagram ≡ datagram)

-- A law: the fronts of datagrams, one behind another, are a stream of the frames of each, in their order, with no rest.
abbrev pub FrontsAreAStream : Type 0
FrontsAreAStream = (m : ℕ) (datagrams : List (List ℕ))
    → (frames m (flat_map (front m) datagrams) ≡ flat_map (datagram_frames m) datagrams) × (rest m (flat_map (front m) datagrams) ≡ [])

-- A law: where what a sender puts on the wire goes out in datagrams of whole frames, each packet stands in exactly one of them, in order.
abbrev pub PacketsInDatagrams : Type 0
PacketsInDatagrams = (m : ℕ) (packets datagrams : List (List ℕ)) → m < 65536 → All (λ packet. (0 < length packet) × (length packet ≤ m)) packets
    → All (IsWholeFrames m) datagrams → flat_map (λ datagram. datagram) datagrams ≡ wire packets → flat_map (datagram_frames m) datagrams ≡ packets

-- The first n bytes are a datagram of whole frames, and as many of these as fit: no longer front is one.
pub record Fills (m : ℕ) (bytes : List ℕ) (n : ℕ) : Type 0 where
  pub within : n ≤ length bytes
  pub whole : IsWholeFrames m (take n bytes)
  pub most : (k : ℕ) → n < k → k ≤ length bytes → IsWholeFrames m (take k bytes) → ⊥

-- a packet is a CONNECT: its code, and its mode
abbrev pub is_connect_packet : List ℕ → Bool
is_connect_packet packet = nat_le 2 (length packet) && (get_or packet 0 0 == 0xFF)

-- a packet is a DISCONNECT
abbrev pub is_disconnect : List ℕ → Bool
is_disconnect packet = get_or packet 0 0 == 0xFE

-- packets begin with a CONNECT
abbrev pub begins_with_connect : List (List ℕ) → Bool
begins_with_connect [] = false
begins_with_connect (packet ∷ packets) = is_connect_packet packet

-- whether the tool has gone with a packet, as it was before
abbrev pub gone_by : Bool → List ℕ → Bool
gone_by before packet = if is_disconnect packet then true else if is_connect_packet packet then false else before

-- whether a tool that was there, or had gone, has gone with these packets
abbrev pub leaves_from : Bool → List (List ℕ) → Bool
leaves_from before [] = before
leaves_from before (packet ∷ packets) = leaves_from (gone_by before packet) packets

-- The tool goes with these packets: one is a DISCONNECT, and behind the last such there is no CONNECT.
abbrev pub leaves : List (List ℕ) → Bool
leaves packets = leaves_from false packets
