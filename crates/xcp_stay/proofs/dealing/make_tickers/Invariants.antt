use Rattle.std.specs.Prelude.{◌≡◌, ◌+◌, ◌≤◌, ◌++◌, length, map, vec_len, vec_capacity}
use Rattle.std.specs.Vec.Iter.{into_iter_items}
use Rattle.xcp_stay.specs.Team.{TasksFrom}
use Rattle.xcp_stay.proofs.dealing.make_tickers.Given as goal

abbrev pub invariant-loop-task : goal.invariant-loop-task
invariant-loop-task g l =
    (vec_len l.tickers ≡ l.task)
    × (l.tasks ≤ vec_capacity l.tickers)
    × (l.tasks ≡ l.task + length (into_iter_items l.members))
    × (l.tasks ≤ l.task + length (into_iter_items l.readers))
    × (map (λ t. t.caller) l.tickers.items ++ into_iter_items l.members ≡ into_iter_items l.initial.members)
    × (map (λ t. t.reader) l.tickers.items ++ into_iter_items l.readers ≡ into_iter_items l.initial.readers)
    × TasksFrom 0 l.tickers.items
