use Rattle.std.proofs.Common.{Ok}
use Rattle.std.proofs.lemmas.Result.{err_from_is_err_and}
use Rattle.xcp_memory.specs.ComputedAccess.{write_refusal}
use Rattle.xcp_memory.proofs.WriteRefusalLaws.{handed_on, answers_outside, answers_protected}
use Rattle.xcp_memory.proofs.pages.Pages.may_write.Goals as goal

pub returns-in_err-writable-clause-outside : goal.returns-in_err-writable-clause-outside
returns-in_err-writable-clause-outside c =
    let a = c.args in
    let r = c.from_residual in
    let p = err_from_is_err_and r.result r.ensures.1 in
    answers_outside a.self.now a.address a.n r.result (handed_on (write_refusal a.self.now a.address a.n) r.result _ p.0 c.in_err-writable.ensures.refused p.1 p.2)

pub returns-in_err-writable-clause-protected : goal.returns-in_err-writable-clause-protected
returns-in_err-writable-clause-protected c =
    let a = c.args in
    let r = c.from_residual in
    let p = err_from_is_err_and r.result r.ensures.1 in
    answers_protected a.self.now a.address a.n r.result c.known.ensures.layout c.requires.some (handed_on (write_refusal a.self.now a.address a.n) r.result _ p.0 c.in_err-writable.ensures.refused p.1 p.2)

pub returns-clause-outside : goal.returns-clause-outside
returns-clause-outside c =
    answers_outside c.args.self.now c.args.address c.args.n (Ok tt) c.in_ok-writable.ensures.ok.0

pub returns-clause-protected : goal.returns-clause-protected
returns-clause-protected c =
    answers_protected c.args.self.now c.args.address c.args.n (Ok tt) c.known.ensures.layout c.requires.some c.in_ok-writable.ensures.ok.0
