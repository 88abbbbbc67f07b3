-- The state that the fields of a core stand for.
use Rattle.std.specs.Prelude.{ℕ, List, [], take, slice_index_or, Option, Some, None}
use Rattle.pin_core.specs.declared.pins.Core.TheInside.{Inside}
use Rattle.pin_core.specs.State.{Reader, PinState}

-- the words written: those that the buffer being built begins with
abbrev pub front_of : Option ℕ → ℕ → List (List ℕ) → List ℕ
front_of None n words = []
front_of (Some b) n words = take n (slice_index_or words b [])

abbrev pub state_of : ℕ → ℕ → List (List ℕ) → List ℕ → List Reader → List ℕ → Option ℕ → Option ℕ → ℕ → List (List ℕ) → PinState
state_of index count words leavings readers started quiet building written publications = record {
  index = index;
  count = count;
  words = words;
  leavings = leavings;
  writer = record {
    started = started;
    quiet = quiet;
    building = building;
    written = front_of building written words;
    publications = publications;
  };
  readers = readers;
}

abbrev pub shown : Inside → PinState
shown c = state_of c.index c.count c.buffers.items c.leavings c.readers
    c.writer.started c.writer.quiet c.writer.building c.writer.written c.writer.publications.items
