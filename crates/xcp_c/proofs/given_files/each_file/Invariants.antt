use Rattle.std.proofs.Common.{◌≡◌, ◌≤◌, ◌++◌, drop, length, map, option_map, string_bytes, sum}
use Rattle.xcp_c.specs.GivenFiles.{files_given}
use Rattle.xcp_c.proofs.given_files.each_file.Given as goal

-- those so far, and those of the names, sizes and bytes that are left
abbrev pub invariant-loop-name : goal.invariant-loop-name
invariant-loop-name l = record {
  made : l.files.items ++ files_given (map (option_map string_bytes) (drop l.name-index l.names)) l.left l.rest ≡ files_given (map (option_map string_bytes) l.names) l.sizes l.bytes;
  room : sum l.left ≤ length l.rest;
}
