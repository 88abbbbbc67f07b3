use Rattle.std.proofs.Common.{arith}
use Rattle.xcp_script.proofs.AnswerTextLemmas.{text_more}
use Rattle.xcp_script.proofs.answer_text.push_block.Goals as goal

pub pieces-preserved : goal.pieces-preserved
pieces-preserved c = record {
  text = text_more _ _ _ c.cut.new.packet.items c.args.width c.pieces.left.now c.in-Some.rest.now c.in-Some.ensures.cut c.pieces.invariant.text (rw c.as_slice-in-Some.ensures.value at c.in_ok-push_ended-in-Some.ensures);
  short = omega (arith, c.in-Some.ensures.less, c.pieces.invariant.short);
}
