use Rattle.xcp_script.proofs.HexDigitLemmas.{low_in_table}
use Rattle.xcp_script.proofs.digits.low_digit.Goals as goal

pub returns : goal.returns
returns c = low_in_table c.args.byte c.ranges.byte.fits
