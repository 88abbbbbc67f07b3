use Rattle.std.proofs.Common.{◌≡◌, ◌+◌, ◌≤◌, take}
use Rattle.std.specs.Prelude.{vec_len, vec_capacity}
use Rattle.xcp_memory.specs.ClassLimits.{limits_of}
use Rattle.xcp_slave.specs.private.PacketRow.{long_row}
use Rattle.xcp_slave.proofs.outbox.Outbox.copy.Given as goal

abbrev pub invariant-loop-packet : goal.invariant-loop-packet
invariant-loop-packet l = (l.row.items ≡ take l.packet-index l.waiting) × (vec_len l.row ≡ l.packet-index) × (long_row (limits_of l.self.class) + (limits_of l.self.class).packets ≤ vec_capacity l.row)
