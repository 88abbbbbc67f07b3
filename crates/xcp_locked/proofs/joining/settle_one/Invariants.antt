use Rattle.std.specs.Prelude.{false}
use Rattle.xcp_locked.specs.SettledReceipts.{AreSettledFor}
use Rattle.xcp_locked.proofs.joining.settle_one.Given as goal

abbrev pub invariant-loop-caller : goal.invariant-loop-caller
invariant-loop-caller g l = AreSettledFor false l.chapter.number l.chapter.entries l.caller l.callers
