use Rattle.std.proofs.Common.{◌≡◌, ◌+◌, drop, sum}
use Rattle.xcp_c.proofs.given_files.sum_to.Given as goal

-- what is left for the sizes behind these is what all lack
abbrev pub invariant-loop-size : goal.invariant-loop-size
invariant-loop-size l = sum l.sizes + l.left ≡ sum (drop l.size-index l.sizes) + l.bytes
