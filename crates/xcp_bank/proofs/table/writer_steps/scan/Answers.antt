use Rattle.std.proofs.Common.{◌≡◌, ℕ, ◌+◌, ◌-◌, arith, ap, sym, subst}
use mathlib.Core.Option.{none}
use Rattle.atomic_table.specs.Table.{step, Allows}
use Rattle.xcp_bank.specs.TableRule.{IsBank}
use Rattle.xcp_bank.specs.private.ReaderSteps.{Seat}
use Rattle.xcp_bank.specs.private.WriterSteps.{writer_plays, Scanned}
use Rattle.xcp_bank.specs.private.SeatSteps.{WriterMoves}
use Rattle.xcp_bank.proofs.WriterRuleLemmas.{scan_allowed}
use Rattle.xcp_bank.proofs.WriterSeatLemmas.{desk_step}
use Rattle.xcp_bank.proofs.table.writer_steps.scan.Goals as goal

back : (b : ℕ) → 1 + b - 1 ≡ b
back b = omega arith

pub load-requires : goal.load-requires
load-requires c =
    let f = c.requires.seat in let s = c.args.store.now in let wide = f.1.wide.size in let low = c.requires.buffer in let b : ℕ = c.args.buffer in
    let st = step s.table_id.slots (1 + b) 0 0 none in (
      f.1.bank_is,
      omega arith,
      subst (λ (i : ℕ). Allows IsBank s.table_id.slots c.args.seat.now.id c.args.seat.now.me (1 + b) (λ n. n) (writer_plays (Scanned s.table_id.slots i) st c.args.seat.now.me)) (sym (back b))
          (scan_allowed s.table_id.slots c.args.seat.now.id f.0 c.args.seat.now.me b (ap (λ (m : Seat). m.0) f.1.me) low f.3 f.2 st),
    )

pub returns : goal.returns
returns c = let e = c.load.ensures in let b : ℕ = c.args.buffer in let st = step c.args.store.now.table_id.slots (1 + b) 0 0 none in
    subst (λ (i : ℕ). WriterMoves (λ W w. Scanned W i w c.load.result) c.args.seat.now c.load.new.seat c.args.store.now.table_id) (back b)
    (desk_step (Scanned c.args.store.now.table_id.slots (1 + b - 1)) st c.args.seat.now c.load.new.seat c.load.result c.args.store.now.table_id e.0 e.2)
