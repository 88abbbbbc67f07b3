use Rattle.std.proofs.Common.{◌≡◌, ℕ, subst}
use Rattle.atomic_table.specs.Seated.{TableId}
use Rattle.atomic_table.specs.declared.shared.Seat.{Seat as Seated}
use Rattle.xcp_bank.specs.SeatKnowledge.{Known}
use Rattle.xcp_bank.specs.private.WriterSteps.{SeatPublished}
use Rattle.xcp_bank.specs.private.SeatSteps.{WriterMoves}
use Rattle.xcp_bank.proofs.table.swap_in.Goals as goal

-- what the step says of the seat and the table inside, said of the sealed ones
pub returns : goal.returns
returns c =
    subst (λ (z : Seated (Unit {0}) Known × TableId). WriterMoves (λ W w u. (n : ℕ) × (p : SeatPublished W c.args.buffer w n u) × (c.swap_in.result ≡ p.count)) z.0 c.swap_in.new.seat z.1)
    (λ i. (c.token.view_is i, c.board.view_is i)) c.swap_in.ensures
