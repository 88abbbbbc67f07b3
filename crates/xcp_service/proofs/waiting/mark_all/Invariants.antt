use Rattle.std.proofs.Common.{◌≡◌, ◌++◌, map, take, drop}
use Rattle.xcp_service.specs.private.Waiting.{settled_mark}
use Rattle.xcp_service.proofs.waiting.mark_all.Given as goal

abbrev pub invariant-loop-one : goal.invariant-loop-one
invariant-loop-one g l = l.waiting ≡ map (settled_mark l.caller l.until) (take l.one-index l.fn.waiting) ++ drop l.one-index l.fn.waiting
