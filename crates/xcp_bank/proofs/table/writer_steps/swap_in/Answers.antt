use Rattle.std.proofs.Common.{◌≡◌, ℕ, ◌*◌, ◌/◌, arith, ap, ◌∙◌, sym, subst}
use mathlib.Core.Option.{none}
use Rattle.atomic_table.specs.Table.{step, Allows}
use Rattle.pin_core.specs.CurrentWord.{head_of}
use Rattle.xcp_bank.specs.TableRule.{IsBank}
use Rattle.xcp_bank.specs.private.ReaderSteps.{Seat}
use Rattle.xcp_bank.specs.private.WriterSteps.{writer_plays, SeatPublished}
use Rattle.xcp_bank.specs.private.SeatSteps.{WriterMoves}
use Rattle.xcp_bank.proofs.WriterRuleLemmas.{publish_allowed}
use Rattle.xcp_bank.proofs.WriterSeatLemmas.{desk_step}
use Rattle.xcp_bank.proofs.table.writer_steps.swap_in.Goals as goal

back : (b : ℕ) → (b * 4294967296) / 4294967296 ≡ b
back b = omega arith

plain : (x b : ℕ) → x ≡ head_of b 0 → x ≡ b * 4294967296
plain x b e = omega arith

pub swap-found-requires : goal.swap-found-requires
swap-found-requires c =
    let f = c.requires.seat in let s = c.args.store.now in let wide = f.1.wide.size in let b : ℕ = c.args.buffer in let me = c.args.seat.now.me in
    let x : ℕ = b * 4294967296 in (
      f.1.bank_is,
      omega arith,
      subst (λ (y : ℕ). Allows IsBank s.table_id.slots c.args.seat.now.id me 0 (λ _. y) (writer_plays (SeatPublished s.table_id.slots (y / 4294967296)) (step s.table_id.slots 0 y 0 none) me)) (sym (plain c.head.result b c.head.ensures.made))
          (subst (λ (i : ℕ). Allows IsBank s.table_id.slots c.args.seat.now.id me 0 (λ _. x) (writer_plays (SeatPublished s.table_id.slots i) (step s.table_id.slots 0 x 0 none) me)) (sym (back b))
          (publish_allowed s.table_id.slots c.args.seat.now.id f.0 me b (ap (λ (m : Seat). m.0) f.1.me) f.2 f.3 f.4 (step s.table_id.slots 0 x 0 none))),
    )

-- the step, as the writer knows it
made : (c : goal.After-swap-found) → WriterMoves (λ W w. SeatPublished W c.args.buffer w c.swap-found.result) c.args.seat.now c.swap-found.new.seat c.args.store.now.table_id
made c =
    let e = c.swap-found.ensures in let b : ℕ = c.args.buffer in let y : ℕ = c.head.result in
    let at : y / 4294967296 ≡ b = ap (λ (z : ℕ). z / 4294967296) (plain y b c.head.ensures.made) ∙ back b in
    subst (λ (i : ℕ). WriterMoves (λ W w. SeatPublished W i w c.swap-found.result) c.args.seat.now c.swap-found.new.seat c.args.store.now.table_id) at
    (desk_step (SeatPublished c.args.store.now.table_id.slots (y / 4294967296)) (step c.args.store.now.table_id.slots 0 y 0 none) c.args.seat.now c.swap-found.new.seat c.swap-found.result c.args.store.now.table_id e.0 e.2)

pub parts-old-requires : goal.parts-old-requires
parts-old-requires c =
    let f = c.requires.seat in let m = made c f.0 f.1 in let low = f.5 in
    let found = m.2.found in let few = m.2.few in omega arith

pub returns : goal.returns
returns c = λ w d.
    let m = made c.before.before w d in let few = m.2.few in
    let p = c.parts-old.ensures.only w.current m.2.count (omega arith) (sym m.2.found) in
    (m.0, m.1, (c.swap-found.result, m.2, c.from.ensures ∙ sym p.1))
