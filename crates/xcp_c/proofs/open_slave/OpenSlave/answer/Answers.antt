use Rattle.xcp_slave.specs.AnswerInBytes.{answer_in}
use Rattle.xcp_slave.specs.AskedRequest.{request_asked}
use Rattle.xcp_c.proofs.OpenSlaveLemmas.{still_sized}
use Rattle.xcp_c.proofs.open_slave.OpenSlave.answer.Goals as goal

pub invariant_of-self : goal.invariant_of-self
invariant_of-self c = (
  still_sized c.self.inside.controller.slave (request_asked c.args.asked) (answer_in c.answer.result c.answer.new.self.lent) c.answer.new.self.slave c.self.inside.pages c.answer.ensures.answers c.self.invariant.0,
  c.self.invariant.1,
)
