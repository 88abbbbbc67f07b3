use Rattle.std.proofs.Common.{◌≡◌, drop}
use Rattle.std.specs.List.{list_all}
use Rattle.xcp_describe.specs.Places.{is_bare_character}
use Rattle.xcp_describe.proofs.key_text.is_bare.Given as goal

abbrev pub invariant-loop-byte : goal.invariant-loop-byte
invariant-loop-byte l = list_all is_bare_character l.key ≡ list_all is_bare_character (drop l.byte-index l.key)
