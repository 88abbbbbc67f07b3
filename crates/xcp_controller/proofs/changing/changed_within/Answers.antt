use Rattle.std.proofs.Common.{subst}
use Rattle.xcp_slave.specs.AnswerInBytes.{answer_in}
use Rattle.xcp_slave.specs.AskedRequest.{request_asked}
use Rattle.xcp_slave.specs.Outcomes.{Told}
use Rattle.xcp_slave.specs.Step.{Answers}
use Rattle.xcp_slave.specs.declared.asked.Asked.{Asked}
use Rattle.xcp_slave.specs.declared.asked.Asked.TheVariants as asks
use Rattle.xcp_controller.proofs.ChangedImageLemmas.{asked-beside, beside-keeps, image-within, silent-within}
use Rattle.xcp_controller.proofs.changing.changed_within.Goals as goal

pub returns-in-Silent-clause-outside : goal.returns-in-Silent-clause-outside
returns-in-Silent-clause-outside c before packet lawful step =
    let command = subst (λ (asked : Asked). Answers before (request_asked asked) (answer_in c.args.told.now packet) c.args.slave.now) c.in-Command.is step in
    let silent = subst (λ (told : Told). Answers before (request_asked (asks.Command c.in-Command.packet)) (answer_in told packet) c.args.slave.now) c.in-Silent.is command in
    silent-within before c.in-Command.packet.now c.args.slave.now 0 0 lawful silent

pub returns-in_default-clause-outside : goal.returns-in_default-clause-outside
returns-in_default-clause-outside c before packet lawful step =
    let command = subst (λ (asked : Asked). Answers before (request_asked asked) (answer_in c.args.told.now packet) c.args.slave.now) c.in-Command.is step in
    c.changed_by.ensures.outside before (answer_in c.args.told.now packet) lawful command

pub returns-in-Event-clause-outside : goal.returns-in-Event-clause-outside
returns-in-Event-clause-outside c before packet lawful step =
    image-within before c.args.slave.now 0 0 (beside-keeps before (request_asked c.args.asked) (answer_in c.args.told.now packet) c.args.slave.now (asked-beside c.args.asked c.in-Event.is) step)
