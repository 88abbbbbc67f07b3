use Rattle.std.proofs.Common.{◌≡◌, map, drop}
use Rattle.xcp_packet.specs.Rows.{first_holding}
use Rattle.xcp_memory.specs.Limits.{apart_limit}
use Rattle.xcp_memory.proofs.areas.check_against.Given as goal

abbrev pub invariant-loop-other : goal.invariant-loop-other
invariant-loop-other l = first_holding (map (apart_limit l.first) l.others) ≡ first_holding (map (apart_limit l.first) (drop l.other-index l.others))
