use Rattle.std.proofs.Common.{ℕ, ◌+◌, arith, ap}
use mathlib.Core.Option.{none}
use Rattle.atomic_table.specs.Table.{step}
use Rattle.xcp_bank.specs.private.ReaderSteps.{Seat}
use Rattle.xcp_bank.specs.private.WriterSteps.{Peeked}
use Rattle.xcp_bank.proofs.PlaceLemmas.{place_is, place_below}
use Rattle.xcp_bank.proofs.WriterRuleLemmas.{peek_allowed}
use Rattle.xcp_bank.proofs.WriterSeatLemmas.{desk_step}
use Rattle.xcp_bank.proofs.table.writer_steps.peek_word.Goals as goal

pub overflow_add-base : goal.overflow_add-base
overflow_add-base c =
    let f = c.requires.seat in let W : ℕ = c.args.store.now.table_id.slots in
    let p = place_below W c.args.buffer c.args.k c.args.base c.requires.buffer c.requires.base c.requires.word in
    let few = f.1.wide.few in omega arith

pub load-requires : goal.load-requires
load-requires c =
    let f = c.requires.seat in let s = c.args.store.now in let W : ℕ = s.table_id.slots in let i : ℕ = c.args.base + c.args.k in
    let wide = f.1.wide.size in
    let below = place_below W c.args.buffer c.args.k c.args.base c.requires.buffer c.requires.base c.requires.word in
    (f.1.bank_is, omega arith, peek_allowed W c.args.seat.now.id f.0 c.args.seat.now.me i (ap (λ (m : Seat). m.0) f.1.me) (step W i 0 0 none))

pub returns : goal.returns
returns c = λ w d.
    let e = c.load.ensures in let W : ℕ = c.args.store.now.table_id.slots in let i : ℕ = c.args.base + c.args.k in
    let t = desk_step (Peeked W i) (step W i 0 0 none) c.args.seat.now c.load.new.seat c.load.result c.args.store.now.table_id e.0 e.2 w d in
    (t.0, t.1, (t.2.is, t.2.found c.args.buffer c.args.k c.requires.buffer c.requires.word (place_is W c.args.buffer c.args.k c.args.base c.requires.base)))
