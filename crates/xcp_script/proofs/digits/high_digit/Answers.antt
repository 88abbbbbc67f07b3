use Rattle.xcp_script.proofs.HexDigitLemmas.{high_in_table}
use Rattle.xcp_script.proofs.digits.high_digit.Goals as goal

pub returns : goal.returns
returns c = high_in_table c.args.byte c.ranges.byte.fits
