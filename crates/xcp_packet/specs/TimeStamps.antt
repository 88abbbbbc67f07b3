-- Time stamps: the lowest bytes of a time.
-- (ASAM MCD-1 XCP, protocol layer: data packets, time stamp field; description of commands: GET_DAQ_RESOLUTION_INFO,
-- TIMESTAMP_MODE.)
use Rattle.std.specs.Prelude.{ℕ, ◌%◌, List, [], ◌∷◌}
use Rattle.xcp_packet.specs.ByteOrder.{word_bytes, double_bytes}
use Rattle.xcp_packet.specs.declared.order.Order.{Order}
use Rattle.xcp_packet.specs.declared.stamp.Stamp.{Stamp}
use Rattle.xcp_packet.specs.declared.stamp.Stamp.TheVariants.{Without, Byte, Word, Double}

-- how many bytes a time stamp has
abbrev pub stamp_size : Stamp → ℕ
stamp_size Without = 0
stamp_size Byte = 1
stamp_size Word = 2
stamp_size Double = 4

-- the time stamp of a time: what its lowest bytes hold
abbrev pub stamp_bytes : Order → Stamp → ℕ → List ℕ
stamp_bytes order Without time = []
stamp_bytes order Byte time = time % 0x100 ∷ []
stamp_bytes order Word time = word_bytes order (time % 0x1_0000)
stamp_bytes order Double time = double_bytes order (time % 0x1_0000_0000)
