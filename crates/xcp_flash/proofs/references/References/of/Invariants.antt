use Rattle.std.proofs.Common.{◌≡◌, take}
use Rattle.xcp_flash.specs.References.{laid_out}
use Rattle.xcp_flash.proofs.references.References.of.Given as goal

-- the pages so far
abbrev pub invariant-loop-segment : goal.invariant-loop-segment
invariant-loop-segment l = l.pages.items ≡ take l.segment (laid_out l.layout)
