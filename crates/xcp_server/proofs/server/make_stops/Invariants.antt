use Rattle.std.specs.Prelude.{◌≡◌, ◌≤◌, vec_len, vec_capacity}
use Rattle.xcp_server.proofs.server.make_stops.Given as goal

abbrev pub invariant-loop-one : goal.invariant-loop-one
invariant-loop-one l = (vec_len l.stops ≡ l._one) × (l.count ≤ vec_capacity l.stops)
