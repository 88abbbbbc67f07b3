use Rattle.xcp_bank.specs.SeatKnowledge.{Writing}
use Rattle.xcp_bank.specs.private.SeatSteps.{IsWriterSeat, HeldCounted}
use Rattle.xcp_bank.proofs.holding.count_held.Given as goal

abbrev pub invariant-loop-buffer : goal.invariant-loop-buffer
invariant-loop-buffer l = (w : Writing) → IsWriterSeat l.fn.token l.board w → (u : Writing) × IsWriterSeat l.token l.board u × HeldCounted l.buffer l.held l.board.slots w u
