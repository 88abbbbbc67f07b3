use Rattle.std.specs.Prelude.{◌≡◌, ◌+◌, ◌++◌, [], length}
use Rattle.std.specs.List.{AllByRecursion}
use Rattle.std.specs.Vec.Iter.{into_iter_items}
use Rattle.xcp_service.specs.Parcels.{AreNumbered, HasAllReceipts}
use Rattle.xcp_service.proofs.opening.hire_all.Given as goal

abbrev pub invariant-loop-caller : goal.invariant-loop-caller
invariant-loop-caller g l =
    let rest = l.caller-iterator in let first = l.initial.caller-iterator in
    (l.yielded ++ into_iter_items rest ≡ into_iter_items first)
    × (l.members.items ≡ l.yielded)
    × AreNumbered l.taker.givers (into_iter_items rest)
    × (l.taker.relay ≡ g.M.Route.relay)
    × (l.taker.taken ≡ [])
    × (l.taker.givers + length (into_iter_items rest) ≡ g.N.Ledger.parts)
    × AllByRecursion HasAllReceipts (into_iter_items rest)
