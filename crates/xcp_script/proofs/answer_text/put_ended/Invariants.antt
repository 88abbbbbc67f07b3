use Rattle.std.proofs.Common.{◌≡◌, ◌≤◌, ◌+◌, ◌-◌, ◌*◌, ◌++◌, length, drop, vec_len, vec_capacity}
use Rattle.hex.specs.Hex.{encode_upper}
use Rattle.xcp_script.proofs.answer_text.put_ended.Given as goal

abbrev pub invariant-loop-byte : goal.invariant-loop-byte
invariant-loop-byte l = record {
  text : l.texts.items ++ encode_upper (drop l.byte-index l.packet) ≡ l.fn.texts.items ++ encode_upper l.packet;
  room : vec_len l.texts + 2 * (length l.packet - l.byte-index) + 1 ≤ vec_capacity l.texts;
}
