use Rattle.std.proofs.Common.{◌≡◌, ◌≤◌, ◌++◌, length, drop, filter, not}
use Rattle.xcp_script.specs.ScriptLine.{is_space}
use Rattle.xcp_script.proofs.parsing.parse_spaced.Given as goal

abbrev pub invariant-loop-byte : goal.invariant-loop-byte
invariant-loop-byte l = record {
  digits : l.digits.items ++ filter (λ b. not (is_space b)) (drop l.byte-index l.line) ≡ filter (λ b. not (is_space b)) l.line;
  room : length l.digits.items ≤ l.byte-index;
}
