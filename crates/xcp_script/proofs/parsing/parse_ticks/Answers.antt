use Rattle.std.proofs.Common.{arith}
use Rattle.xcp_script.proofs.EventLineLemmas.{too_late_at}
use Rattle.xcp_script.proofs.parsing.parse_ticks.Goals as goal

pub returns-then-value-from : goal.returns-then-value-from
returns-then-value-from c =
    too_late_at c.loop-digit.value c.loop-digit.digit-index c.args.digits.now c.loop-digit-test.true (search c.if-not-is_ascii_digit.ensures.value) c.loop-digit.invariant.value (grind (arith, c.if-value-from.true, c.from.ensures, c.from-in-loop-digit.ensures))
