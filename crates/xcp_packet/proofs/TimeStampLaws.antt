-- How long time stamps are.
use Rattle.std.proofs.Common.{◌≡◌, ◌≤◌, ℕ, length, refl, arith}
use Rattle.xcp_packet.specs.TimeStamps.{stamp_size, stamp_bytes}
use Rattle.xcp_packet.proofs.ByteOrderLemmas.{length-bytes_of}
use Rattle.xcp_packet.specs.declared.order.Order.{Order}
use Rattle.xcp_packet.specs.declared.stamp.Stamp.{Stamp}
use Rattle.xcp_packet.specs.declared.stamp.Stamp.TheVariants.{Without, Byte, Word, Double}

-- a time stamp has as many bytes as are said
pub length_stamp : (order : Order) (stamp : Stamp) (time : ℕ) → length (stamp_bytes order stamp time) ≡ stamp_size stamp
length_stamp order Without time = refl
length_stamp order Byte time = refl
length_stamp order Word time = length-bytes_of order 2 _
length_stamp order Double time = length-bytes_of order 4 _

-- and at most four
pub stamp_most : (stamp : Stamp) → stamp_size stamp ≤ 4
stamp_most Without = omega arith
stamp_most Byte = omega arith
stamp_most Word = omega arith
stamp_most Double = omega arith
