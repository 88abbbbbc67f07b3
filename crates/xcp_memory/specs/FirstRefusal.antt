-- Checks, and what they refuse.
use Rattle.std.specs.Prelude.{◌≡◌, Option, Some, None, Result, Ok, Err}
use Rattle.xcp_packet.specs.declared.Code.{Code}

-- A check answers the first refusal, and is Ok where there is none.
abbrev pub Checks : Option Code → Result (Unit {0}) Code → Type 0
Checks refusal (Ok done) = refusal ≡ None
Checks refusal (Err code) = refusal ≡ Some code
