use Rattle.std.proofs.Common.{Ok, length}
use Rattle.std.proofs.lemmas.Result.{err_from_is_err_and}
use Rattle.xcp_memory.specs.ComputedAccess.{write_refusal}
use Rattle.xcp_memory.proofs.WriteRefusalLaws.{handed_on, answers_outside, answers_protected}
use Rattle.xcp_memory.proofs.pages.Pages.write_xcp.Goals as goal

pub returns-in_err-segment-clause-outside : goal.returns-in_err-segment-clause-outside
returns-in_err-segment-clause-outside c =
    let a = c.args in
    let r = c.from_residual in
    let n = length a.bytes.now in
    let p = err_from_is_err_and r.result r.ensures.1 in
    answers_outside a.self.now a.address n r.result (handed_on (write_refusal a.self.now a.address n) r.result _ p.0 c.in_err-segment.ensures.refused p.1 p.2)

pub returns-in_err-segment-clause-protected : goal.returns-in_err-segment-clause-protected
returns-in_err-segment-clause-protected c =
    let a = c.args in
    let r = c.from_residual in
    let n = length a.bytes.now in
    let p = err_from_is_err_and r.result r.ensures.1 in
    answers_protected a.self.now a.address n r.result c.known.ensures.layout c.requires.some (handed_on (write_refusal a.self.now a.address n) r.result _ p.0 c.in_err-segment.ensures.refused p.1 p.2)

pub returns-clause-outside : goal.returns-clause-outside
returns-clause-outside c =
    answers_outside c.args.self.now c.args.address (length c.args.bytes.now) (Ok tt) c.in_ok-segment.ensures.ok.0

pub returns-clause-protected : goal.returns-clause-protected
returns-clause-protected c =
    answers_protected c.args.self.now c.args.address (length c.args.bytes.now) (Ok tt) c.known.ensures.layout c.requires.some c.in_ok-segment.ensures.ok.0
