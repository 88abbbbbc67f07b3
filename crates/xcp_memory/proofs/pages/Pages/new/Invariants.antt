use Rattle.std.proofs.Common.{◌≡◌, map, take}
use Rattle.xcp_memory.specs.Pages.{opening_segment}
use Rattle.xcp_memory.proofs.pages.Pages.new.Given as goal

abbrev pub invariant-loop-i : goal.invariant-loop-i
invariant-loop-i l = l.segments.items ≡ map opening_segment (take l.i l.fn.layout.segments)
