-- How a file of stored pages stands.
use Rattle.std.specs.Prelude.{Bool, true, false}
use Rattle.xcp_scribe.specs.declared.standing.Standing.{Standing}
use Rattle.xcp_scribe.specs.declared.standing.Standing.TheVariants as standings

-- whether the last write failed
abbrev pub is_behind : Standing → Bool
is_behind standings.Behind = true
is_behind standing = false
