-- The command with a code whose parameters stand in a packet.
use Rattle.std.proofs.Common.{◌≡◌, ◌<◌, ℕ, Bool, true, false, List, [], ◌∷◌, drop, refl, ap, sym, arith, Option, Some, if◌then◌else◌, ◌==◌}
use Rattle.std.proofs.lemmas.Bool.Decides.{nat_tests}
use Rattle.std.proofs.lemmas.Option.{none-some, same_Some}
use Rattle.xcp_packet.specs.ByteOrder.{byte_at, word_at, double_at}
use Rattle.xcp_packet.specs.CommandForms.{Parameter, byte, word, double, rest, code, least, parameters}
use Rattle.xcp_packet.specs.CommandSpelling.{HasParameter, AllStand}
use Rattle.xcp_packet.specs.private.DecodeByCode.{readings, coded}
use Rattle.xcp_packet.specs.declared.order.Order.{Order}
use Rattle.xcp_packet.specs.declared.command.Command.{Command}
use Rattle.xcp_packet.specs.declared.command.Command.TheVariants.{Disconnect}

-- a parameter of the same kind and place, with the value that stands in p
abbrev pub filled : Order → List ℕ → Parameter → Parameter
filled order p (byte place _) = byte place (byte_at place p)
filled order p (word place _) = word place (word_at order place p)
filled order p (double place _) = double place (double_at order place p)
filled order p (rest place _) = rest place (record { items = drop place p })

-- these parameters, each with the value that stands in the packet p
abbrev pub all_filled : Order → List ℕ → List Parameter → List Parameter
all_filled order p [] = []
all_filled order p (x ∷ xs) = filled order p x ∷ all_filled order p xs

-- what is filled from p stands there
pub filled-stand : (order : Order) (p : List ℕ) (xs : List Parameter) → AllStand order (all_filled order p xs) p
filled-stand order p [] = tt
filled-stand order p (byte place _ ∷ xs) = (refl, filled-stand order p xs)
filled-stand order p (word place _ ∷ xs) = (refl, filled-stand order p xs)
filled-stand order p (double place _ ∷ xs) = (refl, filled-stand order p xs)
filled-stand order p (rest place _ ∷ xs) = (refl, filled-stand order p xs)

one_stands : (order : Order) (p : List ℕ) (x : Parameter) → HasParameter order x p → filled order p x ≡ x
one_stands order p (byte place x) h = ap (byte place) (sym h)
one_stands order p (word place x) h = ap (word place) (sym h)
one_stands order p (double place x) h = ap (double place) (sym h)
one_stands order p (rest place bytes) h = ap (λ (xs : List ℕ). rest place (record { items = xs })) (sym h)

-- and what stands there is filled from p
pub stand-filled : (order : Order) (p : List ℕ) (xs : List Parameter) → AllStand order xs p → all_filled order p xs ≡ xs
stand-filled order p [] h = refl
stand-filled order p (x ∷ xs) h =
    let one : filled order p x ≡ x = one_stands order p x h.0 in
    let more : all_filled order p xs ≡ xs = stand-filled order p xs h.1 in
    rw (one, more) refl

-- Of each command the reading with its code has its least length, and its parameters as they stand in p. The second
-- line stands for all other commands, and is checked for each; so below.
pub reading : (order : Order) (p : List ℕ) (c : Command) → (d : Command) × (coded (code c) (readings order p) ≡ Some d) × (code d ≡ code c) × (least d ≡ least c) × AllStand order (parameters d) p
reading order p Disconnect = (_, refl, refl, refl, filled-stand order p [])
reading order p c = (_, refl, refl, refl, filled-stand order p (parameters c))

-- a command whose parameters stand in p is the reading with its code
pub reading-stands : (order : Order) (p : List ℕ) (c : Command) → AllStand order (parameters c) p → coded (code c) (readings order p) ≡ Some c
reading-stands order p Disconnect h = refl
reading-stands order p c h = let e : all_filled order p (parameters c) ≡ parameters c = stand-filled order p (parameters c) h in cc

-- no command is spelt by no bytes
pub least-positive : (c : Command) → 0 < least c
least-positive Disconnect = omega arith
least-positive c = omega arith

first_or_later : (c d : Command) (x : ℕ) (o : Option Command) (b : Bool) → (x == code c) ≡ b → (o ≡ Some d → x ≡ code d) → (if b then Some c else o) ≡ Some d → x ≡ code d
first_or_later c d x o true e later h = let same : c ≡ d = same_Some _ _ h in rw (← same) (grind (arith, nat_tests))
first_or_later c d x o false e later h = later h

-- the first command of these with a code has the code
pub coded-code : (cs : List Command) (x : ℕ) (d : Command) → coded x cs ≡ Some d → x ≡ code d
coded-code [] x d h = absurd (none-some d h)
coded-code (c ∷ cs) x d h = first_or_later c d x (coded x cs) (x == code c) refl (coded-code cs x d) h
