use Rattle.std.proofs.Common.{refl}
use Rattle.xcp_script.proofs.LineReadingLaws.{lines_put}
use Rattle.xcp_script.proofs.plain.put_lines.Goals as goal

pub loop-byte-init : goal.loop-byte-init
loop-byte-init c = rw (c.requires.0, c.requires.1) refl

pub returns : goal.returns
returns c = lines_put c.args.text.now _ _ _ c.loop-byte-test.false c.loop-byte.invariant
