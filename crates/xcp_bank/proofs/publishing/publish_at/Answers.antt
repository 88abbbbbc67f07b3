use Rattle.std.proofs.Common.{◌≡◌, ℕ, ◌-◌, ◌*◌, ◌/◌, ◌%◌, ◌<◌, List, length, get_or, arith, ap, ◌∙◌, sym, subst}
use Rattle.xcp_bank.specs.SeatKnowledge.{Writing}
use Rattle.xcp_bank.specs.private.ImageWords.{words_for}
use Rattle.xcp_bank.proofs.ImageLemmas.{for_length, for_last}
use Rattle.xcp_bank.specs.private.BlockMarks.{IsMarked}
use Rattle.xcp_bank.specs.private.SeatSteps.{Rests, filled}
use Rattle.xcp_bank.proofs.WriterSeatLemmas.{desks_one}
use Rattle.xcp_bank.proofs.PublishStepLemmas.{rests_again, published_now}
use Rattle.xcp_bank.proofs.publishing.publish_at.Goals as goal

-- the words fill a buffer, and end with the number
wide_is : (W : ℕ) (image : List ℕ) (number : ℕ) → 1 < W → length image ≡ 8 * (W - 1) → (length (words_for image number) ≡ W) × (get_or (words_for image number) (W - 1) 0 ≡ number)
wide_is W image number some size =
    let l = for_length image number in
    let at : W - 1 ≡ length image / 8 = omega arith in
    (omega arith, ap (λ (k : ℕ). get_or (words_for image number) k 0) at ∙ for_last image number)

pub reset-requires-clause-buffer : goal.reset-requires-clause-buffer
reset-requires-clause-buffer c = let f = c.requires.seat in (c.find_quiet-buffer.ensures f.0 f.1).2.low

pub reset-requires-clause-seat : goal.reset-requires-clause-seat
reset-requires-clause-seat c = let f = c.requires.seat in let q = c.find_quiet-buffer.ensures f.0 f.1 in (q.0, q.1, ap (λ (z : Writing). z.pins.quiet) q.2.is)

pub write_all-requires-clause-buffer : goal.write_all-requires-clause-buffer
write_all-requires-clause-buffer c = let f = c.requires.seat in (c.find_quiet-buffer.ensures f.0 f.1).2.low

pub write_all-requires-clause-seat : goal.write_all-requires-clause-seat
write_all-requires-clause-seat c =
    let f = c.requires.seat in let q = c.find_quiet-buffer.ensures f.0 f.1 in let r = c.reset.ensures q.0 q.1 in (
      r.0,
      r.1,
      ap (λ (z : Writing). z.pins.building) r.2.is,
      ap (λ (z : Writing). z.pins.written) r.2.is,
      subst (λ (l : List (List ℕ)). IsMarked c.args.board.now.slots c.args.marks.now l c.args.image.now) (sym (ap (λ (z : Writing). z.words) r.2.is ∙ ap (λ (z : Writing). z.words) q.2.is)) f.4,
    )

pub swap_in-pins-requires-clause-buffer : goal.swap_in-pins-requires-clause-buffer
swap_in-pins-requires-clause-buffer c = let f = c.requires.seat in (c.find_quiet-buffer.ensures f.0 f.1).2.low

pub swap_in-pins-requires-clause-seat : goal.swap_in-pins-requires-clause-seat
swap_in-pins-requires-clause-seat c =
    let f = c.requires.seat in let q = c.find_quiet-buffer.ensures f.0 f.1 in let r = c.reset.ensures q.0 q.1 in let d = c.write_all.ensures.written r.0 r.1 in
    let same : r.0.pins.publications ≡ f.0.pins.publications = ap (λ (z : Writing). z.pins.publications) r.2.is ∙ ap (λ (z : Writing). z.pins.publications) q.2.is in
    let at : r.0.current ≡ f.0.current = ap (λ (z : Writing). z.current) r.2.is ∙ ap (λ (z : Writing). z.current) q.2.is in
    let low = f.2.low in
    let wide = wide_is c.args.board.now.slots c.args.image.now c.args.number f.1.wide.some f.4.long in
    (filled (words_for c.args.image.now c.args.number) d.1 d.0 r.0, d.2, ap (λ (z : Writing). z.pins.building) r.2.is, wide.0, wide.1 ∙ (f.3 ∙ ap (λ (l : List (List ℕ)). length l % 18446744073709551616) (sym same)), omega arith)

pub offset_bounds-started-buffer : goal.offset_bounds-started-buffer
offset_bounds-started-buffer c = let f = c.requires.seat in let l = (c.find_quiet-buffer.ensures f.0 f.1).2.low in omega arith

pub bounds-started-buffer : goal.bounds-started-buffer
bounds-started-buffer c = let f = c.requires.seat in (c.find_quiet-buffer.ensures f.0 f.1).2.low

pub returns : goal.returns
returns c = λ w d.
    let f = c.requires.seat in
    let k : Rests c.args.current.now c.args.started.now w = subst (Rests c.args.current.now c.args.started.now) (desks_one c.args.token.now c.args.board.now f.0 w f.1 d) f.2 in
    let q = c.find_quiet-buffer.ensures w d in let r = c.reset.ensures q.0 q.1 in let a = c.write_all.ensures.written r.0 r.1 in
    let p = c.swap_in-pins.ensures (filled (words_for c.args.image.now c.args.number) a.1 a.0 r.0) a.2 in
    let b : ℕ = c.find_quiet-buffer.result in (
      p.0,
      p.1,
      rests_again w c.args.current.now c.args.started.now k b (words_for c.args.image.now c.args.number) q.0 r.0 p.0 a.1 a.0 c.args.board.now.slots p.2.0 c.swap_in-pins.result q.2 r.2 a.3 p.2.1 p.2.2,
      published_now w c.args.current.now c.args.started.now k b (words_for c.args.image.now c.args.number) q.0 r.0 p.0 a.1 a.0 c.args.board.now.slots p.2.0 c.swap_in-pins.result q.2 r.2 a.3 p.2.1 p.2.2,
      subst (λ (l : List (List ℕ)). IsMarked c.args.board.now.slots c.write_all.new.marks l c.args.image.now) (sym (ap (λ (z : Writing). z.words) p.2.1.is)) a.4,
    )
