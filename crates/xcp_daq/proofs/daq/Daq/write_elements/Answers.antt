use Rattle.std.proofs.Common.{◌∙◌, ap, sym}
use Rattle.std.specs.Result.{result_err}
use Rattle.xcp_daq.specs.Configuring.{write_daqs, elements_in}
use Rattle.xcp_daq.proofs.WriteTurnLemmas.{element_is, turn, turn_granted}
use Rattle.xcp_daq.proofs.daq.Daq.write_elements.Goals as goal

pub write_next-requires : goal.write_next-requires
write_next-requires c =
    let is = element_is _ _ _ _ _ c.read-element.ensures c.order.ensures c.rest.ensures in
    turn_granted c.args.layout.now c.args.layout.now.order c.args.n c.loop-k.k c.args.elements.now c.read-element.result c.loop-k.self c.loop-k-test.true is (ap result_err c.loop-k.invariant ∙ c.requires.good)

pub loop-k-preserved : goal.loop-k-preserved
loop-k-preserved c =
    let is = element_is _ _ _ _ _ c.read-element.ensures c.order.ensures c.rest.ensures in
    let e = c.read-element.result in
    let good = turn_granted c.args.layout.now c.args.layout.now.order c.args.n c.loop-k.k c.args.elements.now e c.loop-k.self c.loop-k-test.true is (ap result_err c.loop-k.invariant ∙ c.requires.good) in
    ap (write_daqs c.args.layout.now (elements_in c.args.layout.now.order _ _)) c.write_next.ensures
    ∙ sym (turn c.args.layout.now c.args.layout.now.order c.args.n c.loop-k.k c.args.elements.now e c.loop-k.self c.loop-k-test.true is good)
    ∙ c.loop-k.invariant
