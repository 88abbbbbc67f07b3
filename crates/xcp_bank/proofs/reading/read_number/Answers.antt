use Rattle.std.proofs.Common.{ℕ, ◌-◌, subst, arith}
use Rattle.xcp_bank.specs.private.SeatSteps.{ReaderMoves, WordReadAt}
use Rattle.xcp_bank.proofs.reading.read_number.Goals as goal

pub overflow_sub-last : goal.overflow_sub-last
overflow_sub-last c = let some = c.requires.seat.2.wide.some in let w = c.width-last.ensures in omega arith

pub read_word-requires-clause-word : goal.read_word-requires-clause-word
read_word-requires-clause-word c = let some = c.requires.seat.2.wide.some in let w = c.width-last.ensures in omega arith

pub returns : goal.returns
returns c = subst (λ (n : ℕ). ReaderMoves (WordReadAt c.args.buffer (n - 1) c.read_word.result) c.args.token.now c.read_word.new.token c.args.board.now) c.width-last.ensures c.read_word.ensures
