use Rattle.std.proofs.Common.{rules, ◌∙◌, ap, sym}
use Rattle.xcp_memory.specs.EcuImage.{image_size}
use Rattle.xcp_slave.specs.AnswerInBytes.{answer_in}
use Rattle.xcp_slave.specs.AskedRequest.{request_asked}
use Rattle.xcp_slave.proofs.LayoutKeptLemmas.{answers-layout}
use Rattle.xcp_locked.proofs.locked.execute.Goals as goal

-- the bank has the slave's images behind the request, too
pub offer-requires-clause-size : goal.offer-requires-clause-size
offer-requires-clause-size c = c.requires.size ∙ ap image_size (sym (answers-layout c.args.slave.now (request_asked c.args.asked) (answer_in c.answer-told.result c.answer-told.new.packet) c.answer-told.new.self c.answer-told.ensures))

-- That the journal has the call once is what wrong bodies break first. This answer, which is found without it too, ends
-- their check soon.
pub returns-clause-journal : goal.returns-clause-journal
returns-clause-journal c = search rules
