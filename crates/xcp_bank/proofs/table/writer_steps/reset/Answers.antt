use Rattle.std.proofs.Common.{◌≡◌, ℕ, ◌+◌, ◌-◌, arith, ap, sym, subst}
use mathlib.Core.Option.{none}
use Rattle.atomic_table.specs.Table.{step, Allows}
use Rattle.xcp_bank.specs.TableRule.{IsBank}
use Rattle.xcp_bank.specs.private.ReaderSteps.{Seat}
use Rattle.xcp_bank.specs.private.WriterSteps.{writer_plays, WasReset}
use Rattle.xcp_bank.specs.private.SeatSteps.{WriterMoves}
use Rattle.xcp_bank.proofs.WriterRuleLemmas.{reset_allowed}
use Rattle.xcp_bank.proofs.WriterSeatLemmas.{desk_step}
use Rattle.xcp_bank.proofs.table.writer_steps.reset.Goals as goal

back : (b : ℕ) → 1 + b - 1 ≡ b
back b = omega arith

pub store-requires : goal.store-requires
store-requires c =
    let f = c.requires.seat in let s = c.args.store.now in let wide = f.1.wide.size in let low = c.requires.buffer in let b : ℕ = c.args.buffer in
    let st = step s.table_id.slots (1 + b) 0 0 none in (
      f.1.bank_is,
      omega arith,
      subst (λ (i : ℕ). Allows IsBank s.table_id.slots c.args.seat.now.id c.args.seat.now.me (1 + b) (λ _. 0) (λ n. writer_plays (WasReset i) st c.args.seat.now.me 0)) (sym (back b))
          (reset_allowed s.table_id.slots c.args.seat.now.id f.0 c.args.seat.now.me b (ap (λ (m : Seat). m.0) f.1.me) low f.2 st),
    )

pub returns : goal.returns
returns c = let e = c.store.ensures in let b : ℕ = c.args.buffer in let st = step c.args.store.now.table_id.slots (1 + b) 0 0 none in
    subst (λ (i : ℕ). WriterMoves (λ _ w. WasReset i w 0) c.args.seat.now c.store.new.seat c.args.store.now.table_id) (back b)
    (desk_step (WasReset (1 + b - 1)) st c.args.seat.now c.store.new.seat 0 c.args.store.now.table_id e.0 e.2)
