use Rattle.std.proofs.Common.{◌≡◌, ◌*◌, length, drop}
use Rattle.hex.specs.Hex.{decode_pairs}
use Rattle.xcp_script.specs.ScriptLine.{bytes_if_ok}
use Rattle.xcp_script.proofs.HexDigitLemmas.{behind}
use Rattle.xcp_script.proofs.parsing.read_hex.Given as goal

abbrev pub invariant-loop-i : goal.invariant-loop-i
invariant-loop-i g l = record {
  count : length l.read.items ≡ l.i;
  told : bytes_if_ok (decode_pairs 0 l.digits) ≡ behind l.read.items (bytes_if_ok (decode_pairs 0 (drop (2 * l.i) l.digits)));
}
