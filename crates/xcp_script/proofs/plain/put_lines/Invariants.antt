use Rattle.std.proofs.Common.{◌≡◌, ◌++◌, [], drop, map}
use Rattle.xcp_script.specs.private.LineReading.{lines_from}
use Rattle.xcp_script.proofs.plain.put_lines.Given as goal

abbrev pub invariant-loop-byte : goal.invariant-loop-byte
invariant-loop-byte l = map (λ line. line.items) l.lines.items ++ lines_from l.begun.items (drop l.byte-index l.text) ≡ lines_from [] l.text
