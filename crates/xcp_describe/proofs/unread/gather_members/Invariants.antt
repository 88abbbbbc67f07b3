use Rattle.std.proofs.Common.{◌≡◌, ◌++◌, map, drop}
use Rattle.std.specs.List.{enumerate_from, flat_map}
use Rattle.toml.specs.View.{view}
use Rattle.xcp_describe.specs.UnreadKeys.{unread_member}
use Rattle.xcp_describe.specs.private.TableKeys.{keys_of}
use Rattle.xcp_describe.proofs.unread.gather_members.Given as goal

abbrev pub invariant-loop-i : goal.invariant-loop-i
invariant-loop-i l =
    keys_of l.found.items ++ flat_map (unread_member l.name (map (λ k. k.now) l.known)) (enumerate_from l.i (map view (drop l.i l.members)))
    ≡ keys_of l.initial.found.items ++ flat_map (unread_member l.name (map (λ k. k.now) l.known)) (enumerate_from 0 (map view l.members))
