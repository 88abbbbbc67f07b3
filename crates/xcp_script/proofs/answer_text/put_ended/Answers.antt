use Rattle.std.proofs.Common.{arith}
use Rattle.xcp_script.proofs.AnswerTextLemmas.{encode_ended, encode_more, pushed_pair}
use Rattle.xcp_script.proofs.answer_text.put_ended.Goals as goal

pub loop-byte-preserved : goal.loop-byte-preserved
loop-byte-preserved c = record {
  text = pushed_pair _ _ _ _ _ _ _ (rw (encode_more c.args.packet.now c.loop-byte.byte-index c.loop-byte-test.true) at c.loop-byte.invariant.text) (rw c.high_digit.ensures at c.push_reserved.ensures.items) (rw c.low_digit.ensures at c.push_reserved-in-loop-byte.ensures.items);
  room = grind (arith, c.push_reserved.ensures.len, c.push_reserved.ensures.capacity, c.push_reserved-in-loop-byte.ensures.len, c.push_reserved-in-loop-byte.ensures.capacity, c.loop-byte.invariant.room);
}

pub returns : goal.returns
returns c = encode_ended _ _ _ c.args.packet.now _ c.args.end c.loop-byte-test.false c.loop-byte.invariant.text c.push_reserved-2.ensures.items
