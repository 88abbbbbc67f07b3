use Rattle.std.proofs.Common.{◌≡◌, ◌*◌, ◌/◌, ◌-◌, ◌<◌, ◌≤◌, min, length, true}
use Rattle.xcp_bank.specs.SeatKnowledge.{Writing}
use Rattle.xcp_bank.specs.private.BlockMarks.{mark_of, TakenAway}
use Rattle.xcp_bank.specs.private.ImageWords.{words_for}
use Rattle.xcp_bank.specs.private.SeatSteps.{IsWriterSeat, WrittenSoFar}
use Rattle.xcp_bank.proofs.publishing.write_all.Given as goal

-- The words of the blocks so far stand in the buffer, and their marks are taken away.
abbrev pub invariant-loop-block : goal.invariant-loop-block
invariant-loop-block l = ((w : Writing) → IsWriterSeat l.fn.token l.board w → WrittenSoFar l.board l.token l.buffer (min (64 * l.block) (length l.image / 8)) (words_for l.image l.number) w)
    × TakenAway l.buffer 0 l.block l.fn.marks l.marks × (l.block ≤ length l.marks / 8) × (l.block < length l.marks / 8 → mark_of l.marks l.block l.buffer ≡ true)

abbrev pub decreases-loop-block : goal.decreases-loop-block
decreases-loop-block l = length l.marks / 8 - l.block
