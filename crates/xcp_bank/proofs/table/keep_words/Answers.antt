use Rattle.std.proofs.Common.{◌-◌, length, subst}
use Rattle.atomic_table.specs.Seated.{TableId}
use Rattle.atomic_table.specs.declared.shared.Seat.{Seat as Seated}
use Rattle.xcp_bank.specs.SeatKnowledge.{Known}
use Rattle.xcp_bank.specs.private.WriterSteps.{WrittenAgain}
use Rattle.xcp_bank.specs.private.SeatSteps.{WriterMoves}
use Rattle.xcp_bank.proofs.table.keep_words.Goals as goal

-- what the step says of the seat and the table inside, said of the sealed ones
pub returns : goal.returns
returns c =
    subst (λ (z : Seated (Unit {0}) Known × TableId). WriterMoves (λ _ w u. WrittenAgain (c.args.to - length w.pins.written) w u) z.0 c.keep_words.new.seat z.1)
    (λ i. (c.token.view_is i, c.board.view_is i)) c.keep_words.ensures
