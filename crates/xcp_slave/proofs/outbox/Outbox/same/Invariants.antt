use Rattle.std.proofs.Common.{◌≡◌, take}
use Rattle.xcp_slave.proofs.outbox.Outbox.same.Given as goal

abbrev pub invariant-loop-i : goal.invariant-loop-i
invariant-loop-i l = take l.i l.self.packets ≡ take l.i l.other.packets
