-- The plain spelling as it is put together, parameter by parameter. It is the plain spelling, by a lemma of proofs/.
use Rattle.std.specs.Prelude.{ℕ, List, [], ◌∷◌, ◌++◌, ◌-◌, length, replicate}
use Rattle.xcp_packet.specs.CommandForms.{Parameter, code, parameters}
use Rattle.xcp_packet.specs.PlainSpelling.{place_of, bytes_in}
use Rattle.xcp_packet.specs.declared.order.Order.{Order}
use Rattle.xcp_packet.specs.declared.command.Command.{Command}

-- a list made longer by zeros, up to this place
unfoldable pub up_to : ℕ → List ℕ → List ℕ
up_to place p = p ++ replicate (place - length p) 0

-- a code alone
unfoldable pub start : ℕ → List ℕ
start code = code ∷ []

-- p, zeros up to a place, and there these bytes
unfoldable pub put : List ℕ → ℕ → List ℕ → List ℕ
unfolding up_to
put p place bytes = up_to place p ++ bytes

-- p, and then each parameter at its place
abbrev pub with_parameters : Order → List ℕ → List Parameter → List ℕ
with_parameters order p [] = p
with_parameters order p (x ∷ xs) = with_parameters order (put p (place_of x) (bytes_in order x)) xs

-- the code, and then each parameter at its place
abbrev pub built : Order → Command → List ℕ
built order c = with_parameters order (start (code c)) (parameters c)
