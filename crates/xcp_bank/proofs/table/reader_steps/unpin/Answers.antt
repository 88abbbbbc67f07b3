use Rattle.std.proofs.Common.{◌+◌, false, arith, ap, inl}
use mathlib.Core.Option.{none}
use Rattle.atomic_table.specs.Table.{step}
use Rattle.xcp_bank.specs.private.ReaderSteps.{Seat, Unpinned}
use Rattle.xcp_bank.proofs.ReaderRuleLemmas.{unpin_allowed}
use Rattle.xcp_bank.proofs.ReaderSeatLemmas.{after_step}
use Rattle.xcp_bank.proofs.table.reader_steps.unpin.Goals as goal

pub fetch_add-requires : goal.fetch_add-requires
fetch_add-requires c =
    let f = c.requires.seat in
    let s = c.args.store.now in
    let w = f.2.wide.size in
    let low = c.requires.buffer in
    (f.2.bank_is, omega arith, unpin_allowed s.table_id.slots c.args.seat.now.id f.0 f.1 c.args.seat.now.me c.args.buffer f.3 false (ap (λ (m : Seat). m.0) f.2.me) f.4 (inl f.5) (step s.table_id.slots (1 + c.args.buffer) 1 0 none))

pub returns : goal.returns
returns c = let e = c.fetch_add.ensures in after_step (Unpinned c.args.store.now.table_id.slots false) (step c.args.store.now.table_id.slots (1 + c.args.buffer) 1 0 none) c.args.seat.now c.fetch_add.new.seat c.fetch_add.result c.args.store.now.table_id e.0 e.2
