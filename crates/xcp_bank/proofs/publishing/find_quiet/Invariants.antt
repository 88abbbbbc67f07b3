use Rattle.xcp_bank.specs.SeatKnowledge.{Writing}
use Rattle.xcp_bank.specs.private.SeatSteps.{IsWriterSeat, Searched}
use Rattle.xcp_bank.proofs.publishing.find_quiet.Given as goal

abbrev pub invariant-loop-buffer : goal.invariant-loop-buffer
invariant-loop-buffer l = (w : Writing) → IsWriterSeat l.fn.token l.board w → (u : Writing) × IsWriterSeat l.token l.board u × Searched l.buffer w u
