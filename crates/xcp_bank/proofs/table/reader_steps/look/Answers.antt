use Rattle.std.proofs.Common.{arith, ap}
use mathlib.Core.Option.{none}
use Rattle.atomic_table.specs.Table.{step}
use Rattle.xcp_bank.specs.private.ReaderSteps.{Seat, Looked}
use Rattle.xcp_bank.specs.private.SeatSteps.{ReaderMoves}
use Rattle.xcp_bank.proofs.ReaderRuleLemmas.{look_allowed}
use Rattle.xcp_bank.proofs.ReaderSeatLemmas.{after_step, below_the_buffers}
use Rattle.xcp_bank.proofs.table.reader_steps.look.Goals as goal

pub load-requires : goal.load-requires
load-requires c =
    let f = c.requires in
    let s = c.args.store.now in
    let w = f.2.wide.size in
    (f.2.bank_is, omega arith, look_allowed s.table_id.slots c.args.seat.now.id f.0 f.1 c.args.seat.now.me (ap (λ (m : Seat). m.0) f.2.me) f.3 (step s.table_id.slots 0 0 0 none))

-- the step, as the reader knows it
made : (c : goal.After-load) → ReaderMoves (λ W r x y. Looked W r x c.load.result y) c.args.seat.now c.load.new.seat c.args.store.now.table_id
made c = let e = c.load.ensures in after_step (Looked c.args.store.now.table_id.slots) (step c.args.store.now.table_id.slots 0 0 0 none) c.args.seat.now c.load.new.seat c.load.result c.args.store.now.table_id e.0 e.2

pub index_of-requires : goal.index_of-requires
index_of-requires c = let f = c.requires in let m = made c f.0 f.1 f.2 in below_the_buffers f.0 f.1 c.load.result m.2.index m.2.list m.2.before m.2.finds

pub returns : goal.returns
returns c = λ r x s.
    let m = made c.before r x s in let g = m.2.finds in let few = g.few in
    (m.0, m.1, (c.load.result, m.2, c.index_of.ensures m.2.index g.count (omega arith) g.head))
