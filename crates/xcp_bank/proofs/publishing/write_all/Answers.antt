use Rattle.std.proofs.Common.{◌≡◌, ℕ, ◌+◌, ◌-◌, ◌*◌, ◌/◌, ◌<◌, ◌≤◌, min, Bool, false, List, take, take_all, arith, subst, length, length-take, refl, sym, ap, ◌∙◌}
use Rattle.xcp_bank.specs.PinHistory.{Grows, writes_of}
use Rattle.atomic_table.specs.Seated.{TableId}
use Rattle.atomic_table.specs.declared.shared.Seat.{Seat}
use Rattle.xcp_bank.specs.SeatKnowledge.{Writing, Known}
use Rattle.xcp_bank.specs.private.BlockMarks.{blocks_in, mark_of, IsMarked, TakenAway}
use Rattle.xcp_bank.specs.private.ImageWords.{words_for}
use Rattle.xcp_bank.specs.private.WriterSteps.{WrittenAgain}
use Rattle.xcp_bank.specs.private.SeatSteps.{IsWriterSeat, WriterMoves, WrittenSoFar, filled}
use Rattle.xcp_bank.proofs.ImageLemmas.{for_length, for_last}
use Rattle.xcp_bank.proofs.WriterSeatLemmas.{desks_one}
use Rattle.xcp_bank.proofs.BlockMarkLemmas.{taken_none, taken_to, taken_then, stands_clean, marked_then}
use Rattle.xcp_bank.proofs.PublishStepLemmas.{so_far_none, so_far_to, kept, so_far_put}
use Rattle.xcp_bank.proofs.publishing.write_all.Goals as goal

-- a buffer has a word for each of the image's, and one more
wide : (W : ℕ) (image : List ℕ) (number : ℕ) → 1 < W → length image ≡ 8 * (W - 1) → (length (words_for image number) ≡ W) × (length image / 8 + 1 ≡ W)
wide W image number some size = let l = for_length image number in (omega arith, omega arith)

-- as many words were written at most
few : (words : List ℕ) (done k : ℕ) → done ≤ k → length (take done words) ≤ k
few words done k le = let t = length-take done words in omega arith

-- a block that has marks begins with a word of the image
begins : (W size block blocks : ℕ) (image : List ℕ) → length image ≡ 8 * (W - 1) → size ≡ 8 * blocks_in (W - 1) → blocks ≡ size / 8 → block < blocks → min (64 * block) (length image / 8) ≡ 64 * block
begins W size block blocks image long is count below = omega arith

-- and with the last of them the image ends
ends : (W size block blocks : ℕ) (image : List ℕ) → length image ≡ 8 * (W - 1) → size ≡ 8 * blocks_in (W - 1) → blocks ≡ size / 8 → block ≡ blocks → min (64 * block) (length image / 8) ≡ length image / 8
ends W size block blocks image long is count at = omega arith

-- blocks that aren't marked stand there already
skipped : (bank : TableId) (seat : Seat (Unit {0}) Known) (b number : ℕ) (image : List ℕ) (w : Writing) (old new : List Bool) (block next : ℕ) → b < 8 → IsMarked bank.slots old w.words image → TakenAway b 0 block old new
    → ((q : ℕ) → block ≤ q → q < next → mark_of new q b ≡ false) → block ≤ next → WrittenSoFar bank seat b (min (64 * block) (length image / 8)) (words_for image number) w
    → WrittenSoFar bank seat b (min (64 * next) (length image / 8)) (words_for image number) w
skipped bank seat b number image w old new block next fits m t clean le s =
    let both = wide bank.slots image number s.sits.wide.some m.long in
    so_far_to bank b (words_for image number) both.0 w seat seat (min (64 * block) (length image / 8)) (min (64 * next) (length image / 8)) s s.sits (omega arith)
    (λ j from below. s.ahead j from ∙ stands_clean bank.slots b block next number old new w.words image fits m t clean j from below)

pub loop-block-init : goal.loop-block-init
loop-block-init c =
    let b : ℕ = c.args.buffer in let marks : List Bool = c.args.marks.now in let next : ℕ = c.next-block.result in (
      λ w d.
          (let f = c.requires.seat in
          let same : f.0 ≡ w = desks_one c.args.token.now c.args.board.now f.0 w f.1 d in
          let m : IsMarked c.args.board.now.slots marks w.words c.args.image.now = subst (λ (z : Writing). IsMarked c.args.board.now.slots marks z.words c.args.image.now) same f.4 in
          let both = wide c.args.board.now.slots c.args.image.now c.args.number d.wide.some m.long in
          let none : 0 ≡ min 0 (length c.args.image.now / 8) = omega arith in
          let s = so_far_none c.args.board.now b (words_for c.args.image.now c.args.number) both.0 w c.args.token.now d
          (ap (λ (z : Writing). z.pins.building) (sym same) ∙ f.2) (ap (λ (z : Writing). z.pins.written) (sym same) ∙ f.3) m.sized in
          skipped c.args.board.now c.args.token.now b c.args.number c.args.image.now w marks marks 0 next c.requires.buffer m (taken_none b 0 marks) c.next-block.ensures.clean (omega arith)
          (subst (λ (k : ℕ). WrittenSoFar c.args.board.now c.args.token.now b k (words_for c.args.image.now c.args.number) w) none s)),
      taken_to b 0 0 next marks marks (omega arith) c.next-block.ensures.clean (taken_none b 0 marks),
      c.next-block.ensures.inside,
      c.next-block.ensures.marked,
    )

pub write_words-requires-clause-seat : goal.write_words-requires-clause-seat
write_words-requires-clause-seat c =
    let f = c.requires.seat in
    let e = c.blocks-in-loop-block.ensures in let t = c.loop-block.invariant.1.size in
    let at = begins c.args.board.now.slots (length c.args.marks.now) c.loop-block.block c.blocks-in-loop-block.result c.args.image.now f.4.long f.4.size (omega arith) c.loop-block-test.true in (
      c.args.number,
      f.0,
      subst (λ (k : ℕ). WrittenSoFar c.args.board.now c.loop-block.token c.args.buffer k (words_for c.args.image.now c.args.number) f.0) at (c.loop-block.invariant.0 f.0 f.1),
    )

-- the marks of the row are gone
gone : (c : goal.After-next-block-in-loop-block) → TakenAway c.args.buffer 0 c.take_row-end.result c.args.marks.now c.take_row-end.new.self
gone c =
    let more = c.take_row-end.ensures.more in
    taken_then c.args.buffer c.loop-block.block c.take_row-end.result c.args.marks.now c.loop-block.marks c.take_row-end.new.self c.requires.buffer (omega arith) c.loop-block.invariant.1 c.take_row-end.ensures.taken

pub loop-block-preserved : goal.loop-block-preserved
loop-block-preserved c =
    let b : ℕ = c.args.buffer in let block : ℕ = c.loop-block.block in let end : ℕ = c.take_row-end.result in let next : ℕ = c.next-block-in-loop-block.result in
    let marks : List Bool = c.args.marks.now in (
      λ w d.
          (let f = c.requires.seat in
          let same : f.0 ≡ w = desks_one c.args.token.now c.args.board.now f.0 w f.1 d in
          let m : IsMarked c.args.board.now.slots marks w.words c.args.image.now = subst (λ (z : Writing). IsMarked c.args.board.now.slots marks z.words c.args.image.now) same f.4 in
          let e = c.blocks-in-loop-block.ensures in let t = c.loop-block.invariant.1.size in
          let at = begins c.args.board.now.slots (length marks) block c.blocks-in-loop-block.result c.args.image.now m.long m.size (omega arith) c.loop-block-test.true in
          let least = c.min-to.ensures in
          let further : c.min-to.result ≡ min (64 * end) (length c.args.image.now / 8) = omega arith in
          let s = c.write_words.ensures c.args.number w (subst (λ (k : ℕ). WrittenSoFar c.args.board.now c.loop-block.token b k (words_for c.args.image.now c.args.number) w) at (c.loop-block.invariant.0 w d)) in
          skipped c.args.board.now c.write_words.new.token b c.args.number c.args.image.now w marks c.take_row-end.new.self end next c.requires.buffer m (gone c) c.next-block-in-loop-block.ensures.clean
          c.next-block-in-loop-block.ensures.from
          (subst (λ (k : ℕ). WrittenSoFar c.args.board.now c.write_words.new.token b k (words_for c.args.image.now c.args.number) w) further s)),
      taken_to b 0 end next marks c.take_row-end.new.self c.next-block-in-loop-block.ensures.from c.next-block-in-loop-block.ensures.clean (gone c),
      c.next-block-in-loop-block.ensures.inside,
      c.next-block-in-loop-block.ensures.marked,
    )

pub loop-block-smaller : goal.loop-block-smaller
loop-block-smaller c =
    let long = c.take_row-end.ensures.taken.size in let more = c.take_row-end.ensures.more in
    let from = c.next-block-in-loop-block.ensures.from in let test = c.loop-block-test.true in let e = c.blocks-in-loop-block.ensures in
    let less : length c.take_row-end.new.self / 8 - c.next-block-in-loop-block.result < length c.loop-block.marks / 8 - c.loop-block.block = omega arith in less

pub keep_words-requires-clause-seat : goal.keep_words-requires-clause-seat
keep_words-requires-clause-seat c =
    let f = c.requires.seat in let i = c.loop-block.invariant.0 f.0 f.1 in
    let ws : List ℕ = words_for c.args.image.now c.args.number in
    let low = i.low in
    (filled (take i.done ws) i.all i.history f.0, i.sits, f.2, few ws i.done (length c.args.image.now / 8) (omega arith))

-- all words of the image are written, and the number is next
before_number : (bank : TableId) (seat seat' : Seat (Unit {0}) Known) (b number : ℕ) (image : List ℕ) (w : Writing) (size block blocks : ℕ) → length image ≡ 8 * (bank.slots - 1) → size ≡ 8 * blocks_in (bank.slots - 1)
    → blocks ≡ size / 8 → block ≡ blocks → WrittenSoFar bank seat b (min (64 * block) (length image / 8)) (words_for image number) w
    → WriterMoves (λ _ v u. WrittenAgain (length image / 8 - length v.pins.written) v u) seat seat' bank
    → (s : WrittenSoFar bank seat' b (length image / 8) (words_for image number) w) × (s.done ≡ length image / 8)
before_number bank seat seat' b number image w size block blocks long is count end far keeps =
    let k : ℕ = length image / 8 in
    let ws : List ℕ = words_for image number in
    let both = wide bank.slots image number far.sits.wide.some long in
    let last = both.1 in
    let i : WrittenSoFar bank seat b k ws w = subst (λ (j : ℕ). WrittenSoFar bank seat b j ws w) (ends bank.slots size block blocks image long is count end) far in
    let u = keeps (filled (take i.done ws) i.all i.history w) i.sits in
    (kept bank b ws both.0 w seat seat' k (k - length (take i.done ws)) i u.0 (omega arith) refl u.2 u.1, refl)

pub put_word-requires-clause-seat : goal.put_word-requires-clause-seat
put_word-requires-clause-seat c =
    let f = c.requires.seat in
    let ws : List ℕ = words_for c.args.image.now c.args.number in
    let a = c.loop-block-test.false in let e = c.loop-block.invariant.2 in let n = c.blocks-in-loop-block.ensures in let t = c.loop-block.invariant.1.size in
    let s = before_number c.args.board.now c.loop-block.token c.keep_words.new.token c.args.buffer c.args.number c.args.image.now f.0 (length c.args.marks.now) c.loop-block.block c.blocks-in-loop-block.result f.4.long f.4.size
    (omega arith) (omega arith) (c.loop-block.invariant.0 f.0 f.1) c.keep_words.ensures in
    let done = s.1 in
    (filled (take s.0.done ws) s.0.all s.0.history f.0, s.0.sits, f.2, (let t = length-take s.0.done ws in let n = for_length c.args.image.now c.args.number in omega arith))

pub returns-clause-taken : goal.returns-clause-taken
returns-clause-taken c =
    let a = c.loop-block-test.false in let e = c.loop-block.invariant.2 in let n = c.blocks-in-loop-block.ensures in let t = c.loop-block.invariant.1.size in
    let at : c.loop-block.block ≡ length c.args.marks.now / 8 = omega arith in
    subst (λ (k : ℕ). TakenAway c.args.buffer 0 k c.args.marks.now c.loop-block.marks) at c.loop-block.invariant.1

pub returns-clause-written : goal.returns-clause-written
returns-clause-written c = λ w d.
    let f = c.requires.seat in
    let same : f.0 ≡ w = desks_one c.args.token.now c.args.board.now f.0 w f.1 d in
    let m : IsMarked c.args.board.now.slots c.args.marks.now w.words c.args.image.now = subst (λ (z : Writing). IsMarked c.args.board.now.slots c.args.marks.now z.words c.args.image.now) same f.4 in
    let k : ℕ = length c.args.image.now / 8 in
    let ws : List ℕ = words_for c.args.image.now c.args.number in
    let both = wide c.args.board.now.slots c.args.image.now c.args.number d.wide.some m.long in
    let end = both.1 in
    let a = c.loop-block-test.false in let e = c.loop-block.invariant.2 in let n = c.blocks-in-loop-block.ensures in let t = c.loop-block.invariant.1.size in
    let s = before_number c.args.board.now c.loop-block.token c.keep_words.new.token c.args.buffer c.args.number c.args.image.now w (length c.args.marks.now) c.loop-block.block c.blocks-in-loop-block.result m.long m.size
    (omega arith) (omega arith) (c.loop-block.invariant.0 w d) c.keep_words.ensures in
    let p = c.put_word.ensures (filled (take s.0.done ws) s.0.all s.0.history w) s.0.sits in
    let r = so_far_put c.args.board.now c.args.buffer ws both.0 w c.keep_words.new.token c.put_word.new.token k c.args.number s.0 p.0 c.requires.buffer (omega arith) s.1 (sym (for_last c.args.image.now c.args.number)) p.2 p.1 in
    let whole : take r.0.done ws ≡ ws = ap (λ (n : ℕ). take n ws) r.1 ∙ take_all (k + 1) ws (let n = both.0 in omega arith) in
    let all : r.0.done ≡ length ws = r.1 ∙ (let n = both.0 in omega arith) in
    let long = m.long in (
      r.0.history,
      r.0.all,
      subst (λ (l : List ℕ). IsWriterSeat c.put_word.new.token c.args.board.now (filled l r.0.all r.0.history w)) whole r.0.sits,
      subst (λ (n : ℕ). Grows 0 w.history r.0.history (writes_of ws n)) all r.0.grows,
      marked_then c.args.board.now.slots c.args.buffer c.args.number c.args.marks.now c.loop-block.marks w.words r.0.all c.args.image.now c.loop-block.block m c.loop-block.invariant.1 r.0.sized
          (λ j from below. r.0.there j from (omega arith)) r.0.others,
    )
