-- Numbers as bytes, in any order.
use Rattle.std.proofs.Common.{◌≡◌, ◌<◌, ◌^◌, ℕ, List, ◌++◌, length}
use Rattle.byteorder.specs.Numbers.{little_number-reads_back, big_number-reads_back, length-bytes_low_first, length-bytes_high_first}
use Rattle.xcp_packet.specs.ByteOrder.{number_in, bytes_of}
use Rattle.xcp_packet.specs.declared.order.Order.{Order}
use Rattle.xcp_packet.specs.declared.order.Order.TheVariants.{Intel, Motorola}

-- there are n bytes
pub length-bytes_of : (order : Order) (n x : ℕ) → length (bytes_of order n x) ≡ n
length-bytes_of Intel n x = length-bytes_low_first 0 n x
length-bytes_of Motorola n x = length-bytes_high_first n x

-- and they read as the number
pub reads_back : (order : Order) (n x : ℕ) (r : List ℕ) → x < 256 ^ n → number_in order n (bytes_of order n x ++ r) ≡ x
reads_back Intel n x r h = little_number-reads_back n x r h
reads_back Motorola n x r h = big_number-reads_back n x r h
