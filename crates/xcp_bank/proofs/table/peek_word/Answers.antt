use Rattle.std.proofs.Common.{◌≡◌, [], get_or, subst}
use Rattle.atomic_table.specs.Seated.{TableId}
use Rattle.atomic_table.specs.declared.shared.Seat.{Seat as Seated}
use Rattle.xcp_bank.specs.SeatKnowledge.{Known}
use Rattle.xcp_bank.specs.private.SeatSteps.{WriterMoves}
use Rattle.xcp_bank.proofs.table.peek_word.Goals as goal

-- what the step says of the seat and the table inside, said of the sealed ones
pub returns : goal.returns
returns c =
    subst (λ (z : Seated (Unit {0}) Known × TableId). WriterMoves (λ _ w u. (u ≡ w) × (c.peek_word.result ≡ get_or (get_or w.words c.args.buffer []) c.args.k 0)) z.0 c.peek_word.new.seat z.1)
    (λ i. (c.token.view_is i, c.board.view_is i)) c.peek_word.ensures
