use Rattle.xcp_slave.specs.AnswerInBytes.{answer_in}
use Rattle.xcp_slave.specs.AskedRequest.{request_asked}
use Rattle.xcp_service.specs.Parcels.{chapters_put}
use Rattle.xcp_service.proofs.ResidentLemmas.{goes_on_same, published_by}
use Rattle.xcp_service.proofs.resident.Resident.submit.Goals as goal

pub invariant_of-self : goal.invariant_of-self
invariant_of-self g c =
    let said = c.submit_into-submitted.ensures in
    let was = c.self.inside.locked in
    let past = chapters_put c.self.inside.tray.put in (
      c.self.invariant.0,
      c.self.invariant.1,
      goes_on_same g.N.Name.layout was c.submit_into-submitted.new.self past said.chapter c.self.invariant.2,
      published_by _ g.N.Name.layout c.submit_into-submitted.result was c.submit_into-submitted.new.self past c.args.caller.now.number (request_asked c.args.asked) (λ t. answer_in t c.submit_into-submitted.new.packet) c.self.invariant.2 c.known.ensures.run said.answers said.journal said.published said.err c.self.invariant.3,
    )
