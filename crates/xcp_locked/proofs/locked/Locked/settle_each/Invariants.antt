use Rattle.std.proofs.Common.{◌≡◌, true}
use Rattle.xcp_locked.specs.SettledReceipts.{AreSettledFor}
use Rattle.xcp_locked.proofs.locked.Locked.settle_each.Given as goal

abbrev pub invariant-loop-caller : goal.invariant-loop-caller
invariant-loop-caller g l = (l.self ≡ l.fn.self) × AreSettledFor true l.fn.self.chapter l.fn.self.journal l.caller l.callers
