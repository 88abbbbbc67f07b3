use Rattle.std.proofs.Common.{refl}
use lib.Ieee.{neg, odd, of_bits, of_fields}
use lib.Count.{count_trailing_zeros}
use Rattle.xcp_describe.proofs.kind.Kind.bounds.Goals as goal

pub returns-in-UByte : goal.returns-in-UByte
unfolding neg odd of_bits of_fields count_trailing_zeros
returns-in-UByte c = rw c.in-UByte.is refl

pub returns-in-SByte : goal.returns-in-SByte
unfolding neg odd of_bits of_fields count_trailing_zeros
returns-in-SByte c = rw c.in-SByte.is refl

pub returns-in-UWord : goal.returns-in-UWord
unfolding neg odd of_bits of_fields count_trailing_zeros
returns-in-UWord c = rw c.in-UWord.is refl

pub returns-in-SWord : goal.returns-in-SWord
unfolding neg odd of_bits of_fields count_trailing_zeros
returns-in-SWord c = rw c.in-SWord.is refl

pub returns-in-ULong : goal.returns-in-ULong
unfolding neg odd of_bits of_fields count_trailing_zeros
returns-in-ULong c = rw c.in-ULong.is refl

pub returns-in-SLong : goal.returns-in-SLong
unfolding neg odd of_bits of_fields count_trailing_zeros
returns-in-SLong c = rw c.in-SLong.is refl

pub returns-in-Float32 : goal.returns-in-Float32
unfolding neg odd of_bits of_fields count_trailing_zeros
returns-in-Float32 c = rw c.in-Float32.is refl

pub returns-in-Float64 : goal.returns-in-Float64
unfolding neg odd of_bits of_fields count_trailing_zeros
returns-in-Float64 c = rw c.in-Float64.is refl
