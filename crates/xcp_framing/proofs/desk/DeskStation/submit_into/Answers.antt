use Rattle.std.proofs.Common.{ap, ◌∙◌, refl}
use Rattle.xcp_slave.proofs.LayoutKeptLemmas.{answers-layout}
use Rattle.xcp_slave.proofs.RunLaws.{run-extended}
use Rattle.xcp_slave.specs.AnswerInBytes.{answer_in}
use Rattle.xcp_slave.specs.AskedRequest.{request_asked}
use Rattle.xcp_slave.specs.SlaveValue.{layout_of}
use Rattle.xcp_framing.specs.Desk.{DeskValue}
use Rattle.xcp_framing.proofs.desk.DeskStation.submit_into.Goals as goal

pub returns-then-is_err-clause-memory : goal.returns-then-is_err-clause-memory
returns-then-is_err-clause-memory c = refl

pub invariant_of-self-2 : goal.invariant_of-self-2
invariant_of-self-2 c = rw (c.push.ensures, c.reserve.ensures.exchanges) (run-extended _ _ _ _ _ c.self.invariant c.answer-told.ensures)

pub returns-clause-layout : goal.returns-clause-layout
returns-clause-layout c =
    answers-layout c.self.inside.slave (request_asked c.args.asked) (answer_in c.answer-told.result c.answer-told.new.packet) c.answer-told.new.self c.answer-told.ensures ∙ ap (λ (d : DeskValue). layout_of d.slave) c.self.view_is
