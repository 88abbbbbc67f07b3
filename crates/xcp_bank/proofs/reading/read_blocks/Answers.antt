use Rattle.std.proofs.Common.{◌≡◌, ℕ, ◌+◌, ◌*◌, arith, subst}
use Rattle.xcp_bank.specs.private.SeatSteps.{ReadsOn}
use Rattle.xcp_bank.proofs.WordReadLemmas.{reads_on, reads_hold}
use Rattle.xcp_bank.proofs.reading.read_blocks.Goals as goal

pub read_block-requires-clause-seat : goal.read_block-requires-clause-seat
read_block-requires-clause-seat c = reads_hold c.args.board.now c.args.buffer c.args.at c.args.from (51 * c.loop-i.i) _ _ _ _ c.loop-i.invariant c.requires.seat

pub loop-i-preserved : goal.loop-i-preserved
loop-i-preserved c =
    let i : ℕ = c.loop-i.i in
    let next : 51 * i + 51 ≡ 51 * (i + 1) = omega arith in
    subst (λ (n : ℕ). ReadsOn c.args.board.now c.args.buffer c.args.at c.args.from n c.args.token.now c.read_block.new.token c.args.out.now c.read_block.new.out) next
    (reads_on c.args.board.now c.args.buffer c.args.at c.args.from (51 * i) 51 _ _ _ _ _ _ c.loop-i.invariant c.read_block.ensures)
