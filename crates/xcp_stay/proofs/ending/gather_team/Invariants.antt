use Rattle.std.specs.Prelude.{◌≡◌, ◌++◌, map, length}
use Rattle.std.specs.Vec.Iter.{into_iter_items, into_iter_len}
use Rattle.xcp_stay.proofs.ending.gather_team.Given as goal

abbrev pub invariant-loop-tool : goal.invariant-loop-tool
invariant-loop-tool g l =
    let rest = l.tool-iterator in let first = l.initial.tool-iterator in
    (l.yielded ++ into_iter_items rest ≡ into_iter_items first)
    × (into_iter_len rest ≡ length (into_iter_items rest))
    × (l.members.items ≡ map (λ x. x.tool) l.yielded)
    × (l.pumps.items ≡ map (λ x. x.pump) l.yielded)

abbrev pub invariant-loop-member : goal.invariant-loop-member
invariant-loop-member g l =
    let rest = l.member-iterator in let first = l.initial.member-iterator in
    (l.yielded ++ into_iter_items rest ≡ into_iter_items first)
    × (into_iter_len rest ≡ length (into_iter_items rest))
    × (l.members.items ≡ l.initial.members.items ++ map (λ x. x.member) l.yielded)

abbrev pub invariant-loop-pump : goal.invariant-loop-pump
invariant-loop-pump g l =
    let rest = l.pump-iterator in let first = l.initial.pump-iterator in
    (l.yielded ++ into_iter_items rest ≡ into_iter_items first)
    × (into_iter_len rest ≡ length (into_iter_items rest))
    × (l.members.items ≡ l.initial.members.items ++ l.yielded)
