use Rattle.std.proofs.Common.{◌≡◌, map, drop}
use Rattle.xcp_describe.specs.UnreadKeys.{is_key_among}
use Rattle.xcp_describe.proofs.unread.is_among.Given as goal

abbrev pub invariant-loop-name : goal.invariant-loop-name
invariant-loop-name l = is_key_among l.key (map (λ k. k.now) l.known) ≡ is_key_among l.key (map (λ k. k.now) (drop l.name-index l.known))
