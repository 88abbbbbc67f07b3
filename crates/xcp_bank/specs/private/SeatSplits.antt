-- What a seat knows that is cut in two, or joined with another.
use Rattle.std.specs.Prelude.{ℕ, List, [], ◌∷◌, ◌++◌, length, take, drop, Option, Some, None}
use Rattle.pin_core.specs.Effects.{looking}
use Rattle.xcp_bank.specs.PinHistory.{looked_at}
use Rattle.xcp_bank.specs.SeatKnowledge.{Reading, Writing, Known}

-- The first reader is cut off.

abbrev pub without_first : Known → Known
without_first v = record { readers = drop 1 v.readers; writer = v.writer }

abbrev pub only_first : Known → Known
only_first v = record { readers = take 1 v.readers; writer = None }

-- A reader is joined with the writer, which is a Look: it has seen all that is published, what it had seen before is past, and it has
-- heard the writer's history.

abbrev pub when_joined : Writing → ℕ → Reading → Reading
when_joined w r x = record {
  pins = looking w.current (length w.pins.publications) x.pins;
  list = w.pins.publications;
  past = x.list ∷ x.past;
  history = x.history;
  pending = x.pending ++ looked_at r w.current ∷ [];
  heard = w.history;
}

-- And it is cut off again, which is a Look too. Between the two nothing is published.

abbrev pub when_parted : Writing → ℕ → Reading → Reading
when_parted w r x = record {
  pins = looking w.current (length w.pins.publications) x.pins;
  list = w.pins.publications;
  past = x.past;
  history = x.history;
  pending = x.pending ++ looked_at r w.current ∷ [];
  heard = w.history;
}

abbrev pub each_by : (ℕ → Reading → Reading) → List (ℕ × Reading) → List (ℕ × Reading)
each_by f [] = []
each_by f (y ∷ ys) = (y.0, f y.0 y.1) ∷ each_by f ys

abbrev pub by_writer : (Writing → ℕ → Reading → Reading) → Option Writing → List (ℕ × Reading) → List (ℕ × Reading)
by_writer f None ys = ys
by_writer f (Some w) ys = each_by (f w) ys

-- the first of the two stands for the writer
abbrev pub together : Known → Known → Known
together v u = record { readers = by_writer when_joined v.writer u.readers; writer = v.writer }

abbrev pub both_of : Writing → ℕ → Reading → Known
both_of w r x = record { readers = (r, x) ∷ []; writer = Some w }

abbrev pub writer_alone : Known → Known
writer_alone v = record { readers = []; writer = v.writer }

abbrev pub readers_apart : Known → Known
readers_apart v = record { readers = by_writer when_parted v.writer v.readers; writer = None }
