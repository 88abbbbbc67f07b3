use Rattle.std.proofs.Common.{arith, ap}
use mathlib.Core.Option.{none}
use Rattle.atomic_table.specs.Table.{step}
use Rattle.xcp_bank.specs.private.ReaderSteps.{Seat, Pinned}
use Rattle.xcp_bank.specs.private.SeatSteps.{ReaderMoves}
use Rattle.xcp_bank.proofs.ReaderRuleLemmas.{pin_allowed}
use Rattle.xcp_bank.proofs.ReaderSeatLemmas.{after_step, below_the_buffers}
use Rattle.xcp_bank.proofs.table.reader_steps.pin.Goals as goal

pub fetch_add-requires : goal.fetch_add-requires
fetch_add-requires c =
    let f = c.requires in
    let s = c.args.store.now in
    let w = f.2.wide.size in
    (f.2.bank_is, omega arith, pin_allowed s.table_id.slots c.args.seat.now.id f.0 f.1 c.args.seat.now.me (ap (λ (m : Seat). m.0) f.2.me) f.3 f.4 (step s.table_id.slots 0 1 0 none))

-- the step, as the reader knows it
made : (c : goal.After-fetch_add) → ReaderMoves (λ W r x y. Pinned W r x c.fetch_add.result y) c.args.seat.now c.fetch_add.new.seat c.args.store.now.table_id
made c = let e = c.fetch_add.ensures in after_step (Pinned c.args.store.now.table_id.slots) (step c.args.store.now.table_id.slots 0 1 0 none) c.args.seat.now c.fetch_add.new.seat c.fetch_add.result c.args.store.now.table_id e.0 e.2

pub index_of-requires : goal.index_of-requires
index_of-requires c = let f = c.requires in let m = made c f.0 f.1 f.2 in below_the_buffers f.0 f.1 c.fetch_add.result m.2.index m.2.list m.2.before m.2.finds

pub returns : goal.returns
returns c = λ r x s.
    let m = made c.before r x s in let g = m.2.finds in let few = g.few in
    (m.0, m.1, (c.fetch_add.result, m.2, c.index_of.ensures m.2.index g.count (omega arith) g.head))
