-- The writer's seat before and after a step.
use Rattle.std.proofs.Common.{◌≡◌, ℕ, sym, ap, ◌∙◌}
use Rattle.std.proofs.lemmas.Option.{same_Some}
use Rattle.atomic_table.specs.Seated.{TableId}
use Rattle.atomic_table.specs.Table.{Step}
use Rattle.atomic_table.specs.declared.shared.Seat.{Seat as Token}
use Rattle.xcp_bank.specs.SeatKnowledge.{Writing, Known}
use Rattle.xcp_bank.specs.private.Everybody.{the_writer}
use Rattle.xcp_bank.specs.private.ReaderSteps.{Seat}
use Rattle.xcp_bank.specs.private.WriterSteps.{writer_plays}
use Rattle.xcp_bank.specs.private.SeatSteps.{IsWriterSeat, WriterMoves}

module _ (after : Writing → ℕ → Writing → Type 0) (st : Step (Unit {0})) (a b : Token (Unit {0}) Known) (n : ℕ) (bank : TableId) where
  pub desk_step : b.table_id ≡ a.table_id → writer_plays after st a.me n b.me → WriterMoves (λ _ w. after w n) a b bank
  desk_step same plays w s =
      let p = plays w (ap (λ (m : Seat). m.0) s.me) in
      (p.0, record { bank_is = same ∙ s.bank_is; wide = s.wide; me = p.1 ∙ ap (λ (m : Seat). (the_writer p.0, m.1)) s.me }, p.2)

-- two writers, with what they know, for which one seat stands are the same
pub desks_one : (a : Token (Unit {0}) Known) (bank : TableId) (w v : Writing) → IsWriterSeat a bank w → IsWriterSeat a bank v → w ≡ v
desks_one a bank w v s t = same_Some w v (ap (λ (m : Seat). m.0.writer) (sym s.me ∙ t.me))
