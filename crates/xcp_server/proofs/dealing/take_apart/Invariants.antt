use Rattle.std.specs.Prelude.{◌≡◌, ◌+◌, ◌≤◌, ◌++◌, map, length, vec_len, vec_capacity}
use Rattle.std.specs.Vec.Iter.{into_iter_items, into_iter_len}
use Rattle.xcp_server.proofs.dealing.take_apart.Given as goal

abbrev pub invariant-loop-one : goal.invariant-loop-one
invariant-loop-one g l =
    let rest = l.one-iterator in let first = l.initial.one-iterator in
    (l.yielded ++ into_iter_items rest ≡ into_iter_items first)
    × (into_iter_len rest ≡ length (into_iter_items rest))
    × (vec_len l.ended.callers + into_iter_len rest ≤ vec_capacity l.ended.callers)
    × (vec_len l.ended.pumps + into_iter_len rest ≤ vec_capacity l.ended.pumps)
    × (vec_len l.ended.outcomes + into_iter_len rest ≤ vec_capacity l.ended.outcomes)
    × (vec_len l.ended.left + into_iter_len rest ≤ vec_capacity l.ended.left)
    × (l.ended.callers.items ≡ map (λ d. d.tool) l.yielded)
    × (l.ended.pumps.items ≡ map (λ d. d.pump) l.yielded)
    × (l.ended.outcomes.items ≡ map (λ d. d.outcome) l.yielded)
    × (l.ended.left.items ≡ map (λ d. d.left) l.yielded)
    × (vec_capacity l.ended.callers ≡ vec_capacity l.initial.ended.callers)
