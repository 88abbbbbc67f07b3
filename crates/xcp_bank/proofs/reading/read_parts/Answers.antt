use Rattle.std.proofs.Common.{◌≡◌, ℕ, ◌+◌, ◌-◌, arith, subst}
use Rattle.xcp_bank.specs.private.SeatSteps.{ReadsOn}
use Rattle.xcp_bank.proofs.WordReadLemmas.{reads_on, reads_hold}
use Rattle.xcp_bank.proofs.reading.read_parts.Goals as goal

pub read_part-requires-clause-seat : goal.read_part-requires-clause-seat
read_part-requires-clause-seat c = reads_hold c.args.board.now c.args.buffer c.args.at c.args.from (c.loop-k.k - c.args.from) _ _ _ _ c.loop-k.invariant c.requires.seat

pub loop-k-preserved : goal.loop-k-preserved
loop-k-preserved c =
    let from : ℕ = c.args.from in let k : ℕ = c.loop-k.k in
    let low = c.loop-k.auto.k in
    let here : k ≡ from + (k - from) = omega arith in
    let next : k - from + 1 ≡ k + 1 - from = omega arith in
    subst (λ (n : ℕ). ReadsOn c.args.board.now c.args.buffer c.args.at from n c.args.token.now c.read_part.new.token c.args.out.now c.read_part.new.out) next
    (reads_on c.args.board.now c.args.buffer c.args.at from (k - from) 1 _ _ _ _ _ _ c.loop-k.invariant
    (subst (λ (n : ℕ). ReadsOn c.args.board.now c.args.buffer c.args.at n 1 c.loop-k.token c.read_part.new.token c.loop-k.out c.read_part.new.out) here c.read_part.ensures))

pub returns : goal.returns
returns c =
    let low = c.loop-k.auto.k in let end = c.loop-k.auto.k-end in let done = c.loop-k-test.false in let order = c.requires.order in
    let all : c.loop-k.k - c.args.from ≡ c.args.to - c.args.from = omega arith in
    subst (λ (n : ℕ). ReadsOn c.args.board.now c.args.buffer c.args.at c.args.from n c.args.token.now c.loop-k.token c.args.out.now c.loop-k.out) all c.loop-k.invariant
