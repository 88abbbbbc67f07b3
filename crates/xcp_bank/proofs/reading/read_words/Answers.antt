use Rattle.std.proofs.Common.{◌≡◌, ℕ, ◌+◌, ◌-◌, ◌*◌, ◌/◌, length, min, arith, subst}
use Rattle.xcp_bank.specs.BankEnds.{words_in}
use Rattle.xcp_bank.specs.private.SeatSteps.{ReadsOn}
use Rattle.xcp_bank.proofs.WordReadLemmas.{reads_on, reads_hold}
use Rattle.xcp_bank.proofs.reading.read_words.Goals as goal

pub read_blocks-requires-clause-seat : goal.read_blocks-requires-clause-seat
read_blocks-requires-clause-seat c = reads_hold c.args.board.now c.args.buffer c.args.at (c.args.at / 8) (c.min-first.result - c.args.at / 8) _ _ _ _ c.read_parts.ensures c.requires.seat

pub read_parts-requires-2-clause-seat : goal.read_parts-requires-2-clause-seat
read_parts-requires-2-clause-seat c =
    reads_hold c.args.board.now c.args.buffer c.args.at c.min-first.result (51 * (c.saturating_sub.result / 408)) _ _ _ _ c.read_blocks.ensures
    (reads_hold c.args.board.now c.args.buffer c.args.at (c.args.at / 8) (c.min-first.result - c.args.at / 8) _ _ _ _ c.read_parts.ensures c.requires.seat)

pub returns : goal.returns
returns c =
    let at : ℕ = c.args.at in let n : ℕ = length c.args.out.now in
    let first : ℕ = c.min-first.result in let words : ℕ = 51 * (c.saturating_sub.result / 408) in let end : ℕ = (at + n + 7) / 8 in
    let f : first ≡ min ((at + 7) / 8) end = c.min-first.ensures in
    let s : c.saturating_sub.result ≡ at + n - 8 * first = c.saturating_sub.ensures in
    let from : first ≡ at / 8 + (first - at / 8) = omega arith in
    let behind : first + words ≡ at / 8 + (first - at / 8 + words) = omega arith in
    let all : first - at / 8 + words + (end - (first + words)) ≡ words_in at n = omega arith in
    subst (λ (m : ℕ). ReadsOn c.args.board.now c.args.buffer at (at / 8) m c.args.token.now c.read_parts-2.new.token c.args.out.now c.read_parts-2.new.out) all
    (reads_on c.args.board.now c.args.buffer at (at / 8) (first - at / 8 + words) (end - (first + words)) _ _ _ _ _ _
    (reads_on c.args.board.now c.args.buffer at (at / 8) (first - at / 8) words _ _ _ _ _ _ c.read_parts.ensures
    (subst (λ (m : ℕ). ReadsOn c.args.board.now c.args.buffer at m words c.read_parts.new.token c.read_blocks.new.token c.read_parts.new.out c.read_blocks.new.out) from c.read_blocks.ensures))
    (subst (λ (m : ℕ). ReadsOn c.args.board.now c.args.buffer at m (end - (first + words)) c.read_blocks.new.token c.read_parts-2.new.token c.read_blocks.new.out c.read_parts-2.new.out) behind c.read_parts-2.ensures))
