use Rattle.std.specs.Prelude.{◌≡◌, ◌≤◌, vec_len, vec_capacity}
use Rattle.xcp_stay.proofs.dealing.make_doors.Given as goal

abbrev pub invariant-loop-one : goal.invariant-loop-one
invariant-loop-one l = (vec_len l.doors ≡ l._one) × (l.count ≤ vec_capacity l.doors)
