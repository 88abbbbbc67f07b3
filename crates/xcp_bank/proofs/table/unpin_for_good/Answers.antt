use Rattle.std.proofs.Common.{true, subst}
use Rattle.atomic_table.specs.Seated.{TableId}
use Rattle.atomic_table.specs.declared.shared.Seat.{Seat as Seated}
use Rattle.xcp_bank.specs.SeatKnowledge.{Known}
use Rattle.xcp_bank.specs.private.ReaderSteps.{GivesUp}
use Rattle.xcp_bank.specs.private.SeatSteps.{ReaderMoves}
use Rattle.xcp_bank.proofs.table.unpin_for_good.Goals as goal

-- what the step says of the seat and the table inside, said of the sealed ones
pub returns : goal.returns
returns c =
    subst (λ (z : Seated (Unit {0}) Known × TableId). ReaderMoves (λ W. GivesUp W true) z.0 c.unpin_for_good.new.seat z.1)
    (λ i. (c.token.view_is i, c.board.view_is i)) c.unpin_for_good.ensures
