use Rattle.std.proofs.Common.{◌≡◌, drop}
use Rattle.xcp_describe.specs.UnreadKeys.{is_key_among}
use Rattle.xcp_describe.specs.private.EntriesRead.{names_of}
use Rattle.xcp_describe.proofs.tables.has_name.Given as goal

abbrev pub invariant-loop-entry : goal.invariant-loop-entry
invariant-loop-entry l = is_key_among l.name (names_of l.entries) ≡ is_key_among l.name (names_of (drop l.entry-index l.entries))
