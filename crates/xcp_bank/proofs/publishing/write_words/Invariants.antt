use Rattle.std.proofs.Common.{ℕ}
use Rattle.xcp_bank.specs.SeatKnowledge.{Writing}
use Rattle.xcp_bank.specs.private.ImageWords.{words_for}
use Rattle.xcp_bank.specs.private.SeatSteps.{WrittenSoFar}
use Rattle.xcp_bank.proofs.publishing.write_words.Given as goal

abbrev pub invariant-loop-k : goal.invariant-loop-k
invariant-loop-k l = (number : ℕ) (w : Writing) → WrittenSoFar l.board l.fn.token l.buffer l.from (words_for l.image number) w → WrittenSoFar l.board l.token l.buffer l.k (words_for l.image number) w
