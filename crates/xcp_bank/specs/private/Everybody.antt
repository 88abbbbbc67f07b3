-- Who the seats of the bank are, before they are given out.
use Rattle.std.specs.Prelude.{ℕ, List, [], ◌∷◌, Some, zero, suc}
use Rattle.xcp_bank.specs.SeatKnowledge.{Reading, Writing, Known, starting, beginning}

abbrev pub the_writer : Writing → Known
the_writer w = record { readers = []; writer = Some w }

-- the readers below n, none of which has made a step
abbrev pub waiting : ℕ → List ℕ → List (ℕ × Reading)
waiting zero words = []
waiting (suc n) words = (n, starting words) ∷ waiting n words

-- the first seat, while it stands for the writer and the readers below n
abbrev pub everybody : ℕ → List ℕ → Known
everybody n words = record { readers = waiting n words; writer = Some (beginning words) }
