use Rattle.std.proofs.Common.{◌∙◌, sym}
use Rattle.std.proofs.lemmas.Result.{err_from_is_err_and}
use Rattle.xcp_daq.proofs.WriteTurnLemmas.{element_is, turn_looked, turn_refused}
use Rattle.xcp_daq.proofs.daq.Daq.check_elements.Goals as goal

pub returns-in_err-pointer : goal.returns-in_err-pointer
returns-in_err-pointer c =
    let is = element_is _ _ _ _ _ c.read-element.ensures c.order.ensures c.rest.ensures in
    let r = err_from_is_err_and c.from_residual.result c.from_residual.ensures.1 in
    rw (r.1, r.2) (sym c.loop-k.invariant.rest
    ∙ turn_refused c.args.layout.now c.args.layout.now.order c.args.n c.loop-k.k c.args.elements.now c.read-element.result (record c.args.self.now { pointer = c.loop-k.pointer }) _ c.loop-k-test.true is c.in_err-pointer.ensures.refused)

pub loop-k-preserved : goal.loop-k-preserved
loop-k-preserved c =
    let is = element_is _ _ _ _ _ c.read-element.ensures c.order.ensures c.rest.ensures in
    let next = c.in_ok-pointer.ensures.ok in
    record {
      inside = c.in_ok-pointer.ensures.inside;
      rest = turn_looked c.args.layout.now c.args.layout.now.order c.args.n c.loop-k.k c.args.elements.now c.read-element.result (record c.args.self.now { pointer = c.loop-k.pointer }) c.in_ok-pointer.pointer c.loop-k-test.true is next.0 next.1 ∙ c.loop-k.invariant.rest;
    }
