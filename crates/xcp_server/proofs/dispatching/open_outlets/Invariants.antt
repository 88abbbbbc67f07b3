use Rattle.std.specs.Prelude.{◌≡◌, ◌≤◌, vec_len, vec_capacity}
use Rattle.std.specs.List.{AllByRecursion}
use Rattle.xcp_server.specs.private.Dispatching.{IsFreshDispatch}
use Rattle.xcp_server.proofs.dispatching.open_outlets.Given as goal

abbrev pub invariant-loop-one : goal.invariant-loop-one
invariant-loop-one l =
    (vec_len l.outlets ≡ l._one)
    × (l.count ≤ vec_capacity l.outlets)
    × AllByRecursion IsFreshDispatch l.outlets.items
