use Rattle.std.proofs.Common.{string_bytes}
use Rattle.xcp_describe.specs.private.PlainText.{AppendsPlain}
use Rattle.xcp_describe.proofs.plain.put_lines.Given as goal

abbrev pub invariant-loop-line : goal.invariant-loop-line
invariant-loop-line l = AppendsPlain (string_bytes l.initial.text) (string_bytes l.text)
