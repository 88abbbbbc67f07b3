use Rattle.xcp_service.proofs.CallLemmas.{calls_for, published_for}
use Rattle.xcp_service.proofs.calling.call_for.Goals as goal

pub returns-clause-calls : goal.returns-clause-calls
returns-clause-calls g c = calls_for c.args.seat _ _ _ _ c.call.new.resident _ c.in_ok-told.ensures.calls c.note.ensures

pub returns-clause-member : goal.returns-clause-member
returns-clause-member g c =
    let said = c.in_ok-told.ensures.member in
    (said.0, said.1, said.2, published_for _ _ _ c.call.new.resident _ _ said.3 c.note.ensures)
