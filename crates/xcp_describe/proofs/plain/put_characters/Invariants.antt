use Rattle.std.proofs.Common.{string_bytes}
use Rattle.xcp_describe.specs.private.PlainText.{AppendsPlain}
use Rattle.xcp_describe.proofs.plain.put_characters.Given as goal

abbrev pub invariant-loop-c : goal.invariant-loop-c
invariant-loop-c l = AppendsPlain (string_bytes l.initial.text) (string_bytes l.text)
