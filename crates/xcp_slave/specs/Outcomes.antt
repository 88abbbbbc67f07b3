-- What a slave answers, as a value and beside a packet that was lent.
use Rattle.std.specs.Prelude.{ℕ, List}
use Rattle.xcp_slave.specs.declared.outcome.Outcome.{Outcome}
use Rattle.xcp_slave.specs.declared.outcome.Cut.{Cut}

-- an answer has the bytes of its packets
abbrev pub Answer : Type 0
Answer = Outcome (List (List ℕ))

-- what is told says how they stand in the lent packet
abbrev pub Told : Type 0
Told = Outcome Cut
