-- What the fields of the two ends stand for, and what is always true of them.
use Rattle.std.specs.Prelude.{ℕ, List, [], ◌∷◌, Option, Some, None}
use Rattle.atomic_table.specs.Seated.{TableId}
use Rattle.atomic_table.specs.declared.shared.Seat.{Seat}
use Rattle.xcp_bank.specs.SeatKnowledge.{Reading, Writing, Known, nobody, starting, beginning}
use Rattle.xcp_bank.specs.BankEnds.{ReaderEnd, WriterEnd, reader_end, writer_end}

abbrev pub view_in : Option (Seat (Unit {0}) Known) → Known
view_in None = nobody
view_in (Some s) = s.me.0

abbrev pub first_reader : List (ℕ × Reading) → ℕ × Reading
first_reader [] = (0, starting [])
first_reader (y ∷ ys) = y

abbrev pub the_writing : Option Writing → Writing
the_writing None = beginning []
the_writing (Some w) = w

-- the reader, and the writer, for which a seat stands

abbrev pub reader_in : Option (Seat (Unit {0}) Known) → ℕ × Reading
reader_in seat = first_reader (view_in seat).readers

abbrev pub writer_in : Seat (Unit {0}) Known → Writing
writer_in seat = the_writing seat.me.0.writer

abbrev pub shown_reader : TableId → Option (Seat (Unit {0}) Known) → ReaderEnd
shown_reader bank seat = reader_end bank (reader_in seat).0 (reader_in seat).1

abbrev pub shown_writer : TableId → Seat (Unit {0}) Known → WriterEnd
shown_writer bank seat = writer_end bank (writer_in seat)
