use Rattle.std.proofs.Common.{◌≡◌, take, false, ◌&&◌}
use Rattle.std.specs.List.{list_any}
use Rattle.xcp_daq.specs.DaqLists.{DaqList, is_large}
use Rattle.xcp_daq.proofs.daq.Daq.selects_large.Given as goal

abbrev pub invariant-loop-i : goal.invariant-loop-i
invariant-loop-i l = list_any (λ (x : DaqList). x.selected && is_large l.greatest x) (take l.i l.self.lists) ≡ false
