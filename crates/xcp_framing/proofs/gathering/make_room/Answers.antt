use Rattle.xcp_framing.proofs.ExchangeLemmas.{passed_on}
use Rattle.xcp_framing.proofs.PutOutputLemmas.{all_back}
use Rattle.xcp_framing.proofs.gathering.make_room.Goals as goal

pub returns-in_err-hand_on-clause-moves : goal.returns-in_err-hand_on-clause-moves
returns-in_err-hand_on-clause-moves g c =
    rw (passed_on c.from_residual.result c.in_err-hand_on.field-0.0 c.from_residual.ensures.1)
    (all_back (Unit {0}) c.in_err-hand_on.field-0.0 c.in_err-hand_on.ensures.err c.in_err-hand_on.ensures.back.0 c.in_err-hand_on.ensures.back.1 c.hand_on.ensures.held)
