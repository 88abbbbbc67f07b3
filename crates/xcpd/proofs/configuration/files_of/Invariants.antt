use Rattle.std.proofs.Common.{map, option_map, string_bytes}
use Rattle.xcpd.specs.NamedFiles.{AreOf}
use Rattle.xcpd.proofs.configuration.files_of.Given as goal

-- the files so far
abbrev pub invariant-loop-name : goal.invariant-loop-name
invariant-loop-name l = AreOf (map (option_map string_bytes) l.yielded) l.files.items
