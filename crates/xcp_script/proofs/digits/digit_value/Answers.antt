use Rattle.xcp_script.proofs.HexDigitLemmas.{in_table, is_bounded}
use Rattle.std.proofs.Common.{◌∙◌}
use Rattle.xcp_script.proofs.digits.digit_value.Goals as goal

pub returns-clause-value : goal.returns-clause-value
returns-clause-value c = in_table c.args.digit c.ranges.digit.fits

pub returns-clause-bounded : goal.returns-clause-bounded
returns-clause-bounded c = rw (in_table c.args.digit c.ranges.digit.fits) (is_bounded c.args.digit)
