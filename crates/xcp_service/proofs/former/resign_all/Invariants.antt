use Rattle.std.specs.Prelude.{◌≡◌, ◌<◌, ◌++◌, length}
use Rattle.std.specs.List.{AllByRecursion}
use Rattle.std.specs.Vec.Iter.{into_iter_items, into_iter_len}
use Rattle.xcp_service.specs.Keeping.{caller_limit}
use Rattle.xcp_service.specs.Parcels.{AreNumbered, HasAllReceipts, IsHandedOver}
use Rattle.xcp_service.proofs.former.resign_all.Given as goal

abbrev pub invariant-loop-member : goal.invariant-loop-member
invariant-loop-member g l =
    let rest = l.member-iterator in let first = l.initial.member-iterator in
    AreNumbered 0 l.all.items × AllByRecursion (IsHandedOver l.collector) l.all.items × (l.collector ≡ l.initial.collector)
    × (l.all.items ++ into_iter_items rest ≡ into_iter_items first)
    × (into_iter_len rest ≡ length (into_iter_items rest))
    × AllByRecursion (λ c. c.number < caller_limit) l.all.items
    × AllByRecursion HasAllReceipts l.all.items
