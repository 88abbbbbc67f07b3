use Rattle.std.specs.Prelude.{◌≡◌, ◌+◌, ◌≤◌, ◌++◌, map, length, vec_len, vec_capacity}
use Rattle.std.specs.Vec.Iter.{into_iter_items, into_iter_len}
use Rattle.std.specs.List.{AllByRecursion, AllZip}
use Rattle.xcp_server.specs.private.ConnectionParts.{IsConnectionWithin}
use Rattle.xcp_server.specs.private.Dispatching.{IsUnput}
use Rattle.xcp_server.proofs.dealing.connect.Given as goal

abbrev pub invariant-loop-stream : goal.invariant-loop-stream
invariant-loop-stream g l =
    let rest = l.stream-iterator in let first = l.initial.stream-iterator in
    (l.yielded ++ into_iter_items rest ≡ into_iter_items first)
    × (into_iter_len rest ≡ length (into_iter_items rest))
    × (vec_len l.connections + into_iter_len rest ≤ vec_capacity l.connections)
    × AllZip (IsConnectionWithin l.limits) l.yielded l.connections.items
    × (map (λ c. c.0.station.caller) l.connections.items ++ into_iter_items l.tools ≡ into_iter_items l.initial.tools)
    × (into_iter_len rest ≡ length (into_iter_items l.tools))
    × (map (λ c. c.1.station.caller) l.connections.items ++ into_iter_items l.pumps ≡ into_iter_items l.fn.pumps)
    × (into_iter_len rest ≤ length (into_iter_items l.pumps))
    × (l.place + into_iter_len rest ≡ length l.stops)
    × (l.place + into_iter_len rest ≡ length l.dispatches)
    × (map (λ c. c.0.replies.outlet) l.connections.items ++ map (λ e. e.0.outlet) (into_iter_items l.ends) ≡ map (λ e. e.0.outlet) (into_iter_items l.initial.ends))
    × (into_iter_len rest ≡ length (into_iter_items l.ends))
    × AllByRecursion IsUnput (into_iter_items l.ends)
