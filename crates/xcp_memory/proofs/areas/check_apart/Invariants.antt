use Rattle.std.proofs.Common.{◌≡◌, drop}
use Rattle.xcp_packet.specs.Rows.{first_holding}
use Rattle.xcp_memory.specs.Limits.{apart_limits}
use Rattle.xcp_memory.proofs.areas.check_apart.Given as goal

abbrev pub invariant-loop-i : goal.invariant-loop-i
invariant-loop-i l = first_holding (apart_limits l.areas) ≡ first_holding (apart_limits (drop l.i l.areas))
