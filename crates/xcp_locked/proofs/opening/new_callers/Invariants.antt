use Rattle.std.proofs.Common.{◌≡◌, ◌+◌, vec_capacity, vec_len}
use Rattle.xcp_locked.specs.Caller.{callers_of}
use Rattle.xcp_locked.proofs.opening.new_callers.Given as goal

abbrev pub invariant-loop-number : goal.invariant-loop-number
invariant-loop-number g l = (l.rest.parts + l.number ≡ l.callers) × (l.rest.amount ≡ 0) × (l.all.items ≡ callers_of l.layout l.number) × (vec_capacity l.all ≡ vec_capacity l.fn.room) × (vec_len l.all ≡ l.number)
