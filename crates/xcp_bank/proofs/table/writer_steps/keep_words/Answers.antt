use Rattle.std.proofs.Common.{◌≡◌, ℕ, ◌+◌, ◌-◌, ◌*◌, length, Some, arith, ap, ◌∙◌, sym, subst}
use mathlib.Core.Option.{none}
use Rattle.atomic_table.specs.Table.{step}
use Rattle.xcp_bank.specs.SeatKnowledge.{Writing}
use Rattle.xcp_bank.specs.private.ReaderSteps.{Seat}
use Rattle.xcp_bank.specs.private.WriterSteps.{KeptUpTo, WrittenAgain}
use Rattle.xcp_bank.proofs.PlaceLemmas.{place_is, place_below, same_place}
use Rattle.xcp_bank.proofs.WriterRuleLemmas.{keep_allowed}
use Rattle.xcp_bank.proofs.WriterSeatLemmas.{desk_step, desks_one}
use Rattle.xcp_bank.proofs.table.writer_steps.keep_words.Goals as goal

pub overflow_add-base : goal.overflow_add-base
overflow_add-base c =
    let f = c.requires.seat in let W : ℕ = c.args.store.now.table_id.slots in
    let p = place_below W c.args.buffer c.args.to c.args.base c.requires.buffer c.requires.base c.requires.word in
    let few = f.1.wide.few in omega arith

pub load-requires : goal.load-requires
load-requires c =
    let f = c.requires.seat in let s = c.args.store.now in let W : ℕ = s.table_id.slots in let i : ℕ = c.args.base + c.args.to in
    let wide = f.1.wide.size in
    let below = place_below W c.args.buffer c.args.to c.args.base c.requires.buffer c.requires.base c.requires.word in
    let long : ℕ = length f.0.pins.written in
    let n : ℕ = c.args.to - long in
    let few = f.3 in
    let inside = c.requires.word in
    let all : c.args.to ≡ long + n = omega arith in
    let place : i ≡ 9 + (c.args.buffer * W + (long + n)) = place_is W c.args.buffer c.args.to c.args.base c.requires.base ∙ ap (λ (k : ℕ). 9 + (c.args.buffer * W + k)) all in
    (f.1.bank_is, omega arith, keep_allowed W c.args.seat.now.id f.0 c.args.seat.now.me i n c.args.buffer (ap (λ (m : Seat). m.0) f.1.me) f.2 (omega arith) place (step W i 0 0 none))

pub returns : goal.returns
returns c = λ w d.
    let f = c.requires.seat in
    let e = c.load.ensures in let W : ℕ = c.args.store.now.table_id.slots in let i : ℕ = c.args.base + c.args.to in
    let t = desk_step (KeptUpTo W i) (step W i 0 0 none) c.args.seat.now c.load.new.seat c.load.result c.args.store.now.table_id e.0 e.2 w d in
    let same = desks_one c.args.seat.now c.args.store.now.table_id f.0 w f.1 d in
    let built : w.pins.building ≡ Some c.args.buffer = ap (λ (z : Writing). z.pins.building) (sym same) ∙ f.2 in
    let place = sym (place_is W c.args.buffer c.args.to c.args.base c.requires.base) ∙ t.2.place c.args.buffer built in
    let to_is = same_place W c.args.buffer (length w.pins.written + t.2.count) c.args.to place in
    let count : t.2.count ≡ c.args.to - length w.pins.written = omega arith in
    (t.0, t.1, subst (λ (n : ℕ). WrittenAgain n w t.0) count t.2.writes)
