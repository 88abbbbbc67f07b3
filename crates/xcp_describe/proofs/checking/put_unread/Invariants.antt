use Rattle.std.proofs.Common.{◌≡◌, ◌++◌, drop, flat_map, string_bytes}
use Rattle.xcp_describe.specs.FindingsText.{unread_line}
use Rattle.xcp_describe.specs.private.TableKeys.{keys_of}
use Rattle.xcp_describe.proofs.checking.put_unread.Given as goal

abbrev pub invariant-loop-key : goal.invariant-loop-key
invariant-loop-key l =
    string_bytes l.text ++ flat_map unread_line (keys_of (drop l.key-index l.unread))
    ≡ string_bytes l.initial.text ++ flat_map unread_line (keys_of l.unread)
