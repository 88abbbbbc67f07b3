use Rattle.std.proofs.Common.{refl}
use Rattle.std.specs.Float.{float_is_finite}
use lib.Ieee.{of_bits, of_fields, odd}
use lib.Count.{count_trailing_zeros}
use Rattle.xcp_describe.proofs.entry.offset_in.Goals as goal

-- an offset that isn't given is 0
pub returns : goal.returns
unfolding of_bits of_fields odd count_trailing_zeros float_is_finite
returns c = record { finite = c.number_in.ensures.finite refl; value = c.number_in.ensures.value; refused = c.number_in.ensures.refused }
