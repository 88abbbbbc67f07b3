use Rattle.std.proofs.Common.{◌<◌, ◌≤◌, ◌*◌, ◌+◌, ◌⊎◌, length, slice_index, ◌∙◌, arith}
use Rattle.xcp_script.specs.private.HexDigits.{value_or}
use Rattle.xcp_script.proofs.HexDigitLemmas.{whole, one_more, no_more, no_digit_left, both, not_both}
use Rattle.xcp_script.proofs.parsing.read_hex.Goals as goal

pub returns-then-byte-gt-GREATEST_BYTE : goal.returns-then-byte-gt-GREATEST_BYTE
returns-then-byte-gt-GREATEST_BYTE g c =
    let digits = c.args.digits.now in
    let some : 0 < length digits = grind (arith, c.if-is_empty.ensures) in
    let inside : 2 * c.loop-i.i + 1 < length digits = omega (arith, c.loop-i-test.true) in
    let bad = not_both (slice_index digits (2 * c.loop-i.i)) (slice_index digits (2 * c.loop-i.i + 1)) (rw (c.digit_value-high.ensures.value, c.digit_value-low.ensures.value) at c.if-byte-gt-GREATEST_BYTE.true) in
    whole c.args.most digits some c.if-digits-most.false c.if-digits-eq1.false
    ∙ no_more digits c.loop-i.read.items c.loop-i.i _ inside bad c.loop-i.invariant.told

pub loop-i-preserved : goal.loop-i-preserved
loop-i-preserved g c =
    let digits = c.args.digits.now in
    let inside : 2 * c.loop-i.i + 1 < length digits = omega (arith, c.loop-i-test.true) in
    let fit = both (slice_index digits (2 * c.loop-i.i)) (slice_index digits (2 * c.loop-i.i + 1)) (rw (c.digit_value-high.ensures.value, c.digit_value-low.ensures.value) at c.if-byte-gt-GREATEST_BYTE.false) in
    record {
      count = omega (arith, c.push.ensures.len, c.loop-i.invariant.count);
      told = one_more digits c.loop-i.read.items c.push.new.self.items c.loop-i.i _ inside fit.0 fit.1
          c.loop-i.invariant.told (rw (c.digit_value-high.ensures.value, c.digit_value-low.ensures.value) at c.push.ensures.items);
    }

pub returns : goal.returns
returns g c =
    let digits = c.args.digits.now in
    let some : 0 < length digits = grind (arith, c.if-is_empty.ensures) in
    let end : length digits ≤ 2 * c.loop-i.i = omega (arith, c.loop-i-test.false, c.if-digits-eq1.false) in
    whole c.args.most digits some c.if-digits-most.false c.if-digits-eq1.false
    ∙ no_digit_left digits c.loop-i.read.items c.loop-i.i _ end c.loop-i.invariant.told
