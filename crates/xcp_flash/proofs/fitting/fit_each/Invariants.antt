use Rattle.std.proofs.Common.{◌≡◌, ◌<◌, ℕ, [], length, slice_index_or as get_or}
use Rattle.xcp_memory.specs.Pages.{no_segment}
use Rattle.xcp_flash.proofs.fitting.fit_each.Given as goal

-- the pages so far have the sizes of their segments
abbrev pub invariant-loop-segment : goal.invariant-loop-segment
invariant-loop-segment l = (k : ℕ) → k < l.segment → length (get_or l.pages k []) ≡ length (get_or l.layout.segments k no_segment).bytes
