use Rattle.std.proofs.Common.{◌≡◌, arith}
use Rattle.xcp_trace.proofs.CursorLemmas.{given_here, past, stands_behind}
use Rattle.xcp_trace.proofs.tape.Tape.get.Goals as goal

pub loop-passed-preserved : goal.loop-passed-preserved
loop-passed-preserved c = stands_behind c.args.self.now.strings c.loop-passed.strings c.next.new.self c.loop-passed._passed c.in-Some.field-0.now c.loop-passed.invariant c.in-Some.ensures

pub returns-in-None : goal.returns-in-None
returns-in-None c = past c.args.self.now.strings c.loop-passed.strings c.loop-passed._passed c.args.index c.loop-passed.invariant c.in-None.ensures.0 c.loop-passed-test.true

pub returns : goal.returns
returns c =
    let end : c.loop-passed._passed ≡ c.args.index = omega (arith, c.loop-passed-test.false, c.loop-passed.auto._passed-end) in
    rw end at (given_here (λ s. s.now) c.args.self.now.strings c.loop-passed.strings c.next-2.new.self c.loop-passed._passed c.next-2.result c.loop-passed.invariant c.next-2.ensures)
