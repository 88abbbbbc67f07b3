-- What the private fields of a reader and of a writer keep to.
use Rattle.std.specs.Prelude.{◌≡◌, ℕ, ◌<◌, ◌%◌, Bool, false, List, length, Option, Some}
use Rattle.atomic_table.specs.Seated.{TableId}
use Rattle.atomic_table.specs.declared.shared.Seat.{Seat}
use Rattle.xcp_bank.specs.SeatKnowledge.{Known}
use Rattle.xcp_bank.specs.private.ReaderSteps.{FollowsHistory}
use Rattle.xcp_bank.specs.private.SeatSteps.{IsReaderSeat, IsWriterSeat, Rests, buffer_held}
use Rattle.xcp_bank.specs.private.BlockMarks.{IsMarked}
use Rattle.xcp_bank.specs.BankEnds.{writer_end, newest}
use Rattle.xcp_bank.specs.EndFields.{reader_in, writer_in}

-- A reader's seat is there and stands for it, and its history is a run; the field has the buffer that it holds.
pub record ReaderKept (bank : TableId) (held : Option ℕ) (seat : Option (Seat (Unit {0}) Known)) : Type 0 where
  pub token : Seat (Unit {0}) Known
  pub is : seat ≡ Some token
  pub sits : IsReaderSeat token bank (reader_in seat).0 (reader_in seat).1
  pub follows : FollowsHistory bank.slots (reader_in seat).0 (reader_in seat).1
  pub here : (reader_in seat).1.pins.gone ≡ false
  pub held_is : held ≡ buffer_held (reader_in seat).1
  pub low : (b : ℕ) → held ≡ Some b → b < 8

-- The writer's seat stands for it; the fields have the current buffer, the started counts, the number of publications modulo 2^64,
-- and marks that are right for the newest image.
pub record WriterKept (bank : TableId) (current : ℕ) (started : List ℕ) (count : ℕ) (marks : List Bool) (seat : Seat (Unit {0}) Known) : Type 0 where
  pub desks : IsWriterSeat seat bank (writer_in seat)
  pub rests : Rests current started (writer_in seat)
  pub counted : count ≡ length (writer_in seat).pins.publications % 18446744073709551616
  pub marked : IsMarked bank.slots marks (writer_in seat).words (newest (writer_end bank (writer_in seat)))
