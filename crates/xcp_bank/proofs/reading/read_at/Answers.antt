use Rattle.std.proofs.Common.{◌≡◌, ℕ, ◌+◌, ◌-◌, ◌*◌, ◌/◌, ◌<◌, [], length, get_or, refl, subst, arith}
use Rattle.xcp_bank.specs.Images.{image_in_words}
use Rattle.xcp_bank.specs.BankEnds.{words_in}
use Rattle.xcp_bank.specs.private.SeatSteps.{HasRead}
use Rattle.xcp_bank.proofs.ImageLemmas.{image_length, part_is}
use Rattle.xcp_bank.proofs.ReaderSeatLemmas.{read_none}
use Rattle.xcp_bank.proofs.reading.read_at.Goals as goal

pub returns : goal.returns
returns c = λ r x s p holds.
    let at : ℕ = c.args.at in let n : ℕ = length c.args.out.now in
    let g = c.read_words.ensures in let inside = c.requires.inside in
    let i = g.reads r x x p (at / 8) 0 s holds (read_none c.args.board.now.slots r x (at / 8) 0 p refl) (omega arith) in
    let same : 0 + words_in at n ≡ words_in at n = omega arith in
    let read : HasRead (at / 8) (words_in at n) p c.args.board.now.slots r x i.0 = subst (λ (m : ℕ). HasRead (at / 8) m p c.args.board.now.slots r x i.0) same i.2 in
    let some : 0 < n → 0 < words_in at n = λ l. omega arith in (
      i.0,
      i.1,
      read,
      part_is (8 * (c.args.board.now.slots - 1)) c.read_words.new.out (image_in_words (get_or x.list p [])) at n g.size inside (λ l. image_length c.args.board.now.slots (get_or x.list p []) (read.numbered (some l)).size) (λ j l. g.there r x p s holds j l (omega arith) (omega arith)),
    )
