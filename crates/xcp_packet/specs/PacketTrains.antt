-- The packets of an answer: one, or a block of bytes in several.
-- (ASAM MCD-1 XCP, protocol layer: slave block transfer mode; description of commands: UPLOAD.)
use Rattle.std.specs.Prelude.{ℕ, zero, suc, ◌-◌, ◌/◌, ◌<◌, List, [], ◌∷◌, length, take, drop, Option, Some, None}

-- so many positive responses of `width` data bytes each, and one with the rest
abbrev pub full_packets : ℕ → ℕ → List ℕ → List (List ℕ)
full_packets zero width bytes = (0xFF ∷ bytes) ∷ []
full_packets (suc n) width bytes = (0xFF ∷ take width bytes) ∷ full_packets n width (drop width bytes)

-- Bytes as positive responses: each has `width` of them, the last one the rest. Where `width` or fewer are left, it is one.
unfoldable pub block_packets : ℕ → List ℕ → List (List ℕ)
block_packets width bytes = full_packets ((length bytes - 1) / width) width bytes

-- the packets that bytes are: without a width one packet, and else a block of data bytes
abbrev pub packets_in : Option ℕ → List ℕ → List (List ℕ)
packets_in None bytes = bytes ∷ []
packets_in (Some width) bytes = block_packets width bytes
