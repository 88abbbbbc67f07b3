use Rattle.std.proofs.Common.{◌≡◌, ℕ, ◌+◌, ◌*◌, arith, ap, ◌∙◌, sym}
use mathlib.Core.Option.{none}
use Rattle.atomic_table.specs.Table.{step}
use Rattle.xcp_bank.specs.private.ReaderSteps.{Seat, ReadAt, reading_after_read}
use Rattle.xcp_bank.proofs.PlaceLemmas.{place_is, place_below, same_place}
use Rattle.xcp_bank.proofs.ReaderRuleLemmas.{read_allowed}
use Rattle.xcp_bank.proofs.ReaderSeatLemmas.{after_step}
use Rattle.xcp_bank.proofs.table.reader_steps.read_word.Goals as goal

pub overflow_add-base : goal.overflow_add-base
overflow_add-base c =
    let f = c.requires.seat in let W : ℕ = c.args.store.now.table_id.slots in
    let p = place_below W c.args.buffer c.args.k c.args.base c.requires.buffer c.requires.base c.requires.word in
    let few = f.2.wide.few in omega arith

pub load-requires : goal.load-requires
load-requires c =
    let f = c.requires.seat in
    let s = c.args.store.now in let W : ℕ = s.table_id.slots in let i : ℕ = c.args.base + c.args.k in
    let w = f.2.wide.size in
    let below = place_below W c.args.buffer c.args.k c.args.base c.requires.buffer c.requires.base c.requires.word in
    (f.2.bank_is, omega arith, read_allowed W c.args.seat.now.id f.0 f.1 c.args.seat.now.me i c.args.buffer f.3 c.args.k f.4 c.requires.word (place_is W c.args.buffer c.args.k c.args.base c.requires.base) (ap (λ (m : Seat). m.0) f.2.me) (step W i 0 0 none))

pub returns : goal.returns
returns c = λ r x s.
    let e = c.load.ensures in
    let k : ℕ = c.args.k in let i : ℕ = c.args.base + k in let W : ℕ = c.args.store.now.table_id.slots in
    let t = after_step (ReadAt W i) (step W i 0 0 none) c.args.seat.now c.load.new.seat c.load.result c.args.store.now.table_id e.0 e.2 r x s in
    let same : i ≡ 9 + (c.args.buffer * W + k) = place_is W c.args.buffer k c.args.base c.requires.base in (
      t.0,
      t.1,
      λ p holds. record {
        before = t.2.before;
        reaches = t.2.reaches;
        is = t.2.is ∙ ap (λ (j : ℕ). reading_after_read r j c.load.result t.2.before x) (same_place W c.args.buffer t.2.k k (sym same ∙ t.2.place c.args.buffer p holds));
        follows = t.2.follows;
        value = t.2.value c.args.buffer p k holds same c.requires.word;
        numbered = t.2.numbered c.args.buffer p holds;
        pasts = t.2.pasts;
      },
    )
