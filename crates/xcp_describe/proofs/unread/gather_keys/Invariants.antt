use Rattle.std.proofs.Common.{◌≡◌, ◌++◌, map}
use Rattle.toml.specs.View.{members_view}
use Rattle.xcp_describe.specs.UnreadKeys.{unread_members}
use Rattle.xcp_describe.specs.private.TableKeys.{keys_of, bare_place}
use Rattle.xcp_describe.proofs.unread.gather_keys.Given as goal

abbrev pub invariant-keys : goal.invariant-keys
invariant-keys l =
    keys_of l.found.items ++ unread_members (bare_place l.place) (map (λ k. k.now) l.known) (members_view l.key-iterator)
    ≡ keys_of l.initial.found.items ++ unread_members (bare_place l.place) (map (λ k. k.now) l.known) (members_view l.table.entries)
