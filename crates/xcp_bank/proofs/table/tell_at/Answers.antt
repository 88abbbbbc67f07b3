use Rattle.std.proofs.Common.{ℕ, subst}
use Rattle.atomic_table.specs.Seated.{TableId}
use Rattle.atomic_table.specs.declared.shared.Seat.{Seat as Seated}
use Rattle.xcp_bank.specs.SeatKnowledge.{Reading, Writing, Known}
use Rattle.xcp_bank.specs.private.SeatSplits.{when_joined, when_parted}
use Rattle.xcp_bank.specs.private.SeatSteps.{IsReaderSeat, IsWriterSeat}
use Rattle.xcp_bank.proofs.table.tell_at.Goals as goal

-- what the two steps say of the seats and the table inside, said of the sealed ones
pub returns : goal.returns
returns c =
    subst (λ (z : Seated (Unit {0}) Known × Seated (Unit {0}) Known × TableId). (w : Writing) (r : ℕ) (x : Reading) → IsWriterSeat z.0 z.2 w → IsReaderSeat z.1 z.2 r x → IsWriterSeat c.tell_at-seat.new.writer z.2 w × IsReaderSeat c.tell_at-seat.result z.2 r (when_parted w r (when_joined w r x)))
    (λ i. (c.writer.view_is i, c.reader.view_is i, c.board.view_is i)) c.tell_at-seat.ensures
