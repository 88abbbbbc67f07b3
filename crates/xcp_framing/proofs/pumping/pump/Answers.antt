use Rattle.std.proofs.Common.{ℕ}
use Rattle.xcp_framing.proofs.ExchangeLemmas.{passed_on}
use Rattle.xcp_framing.proofs.DrainLemmas.{pumps_of, pumps_lost}
use Rattle.xcp_framing.proofs.PutOutputLemmas.{none_refused, unput_stops}
use Rattle.xcp_framing.proofs.pumping.pump.Goals as goal

pub returns-in_err-hand_on-clause-pumps : goal.returns-in_err-hand_on-clause-pumps
returns-in_err-hand_on-clause-pumps g c =
    rw (passed_on c.from_residual.result c.in_err-hand_on.field-0.0 c.from_residual.ensures.1)
    (pumps_lost c.pump_turns-pumped.result c.in_err-hand_on.field-0.0 c.in_err-hand_on.ensures.err c.new-batch.ensures c.in_err-hand_on.ensures.back.0 c.in_err-hand_on.ensures.back.1 c.pump_turns-pumped.ensures.pumps)

pub returns-in_err-hand_on-clause-stops : goal.returns-in_err-hand_on-clause-stops
returns-in_err-hand_on-clause-stops g c =
    rw (passed_on c.from_residual.result c.in_err-hand_on.field-0.0 c.from_residual.ensures.1) (unput_stops c.in_err-hand_on.field-0.0 c.in_err-hand_on.ensures.err)

pub returns-in_err-hand_on-clause-refused : goal.returns-in_err-hand_on-clause-refused
returns-in_err-hand_on-clause-refused g c =
    rw (passed_on c.from_residual.result c.in_err-hand_on.field-0.0 c.from_residual.ensures.1) (none_refused ℕ c.in_err-hand_on.field-0.0 _ c.in_err-hand_on.ensures.err)

pub returns-clause-pumps : goal.returns-clause-pumps
returns-clause-pumps g c = pumps_of c.pump_turns-pumped.result c.new-batch.ensures c.pump_turns-pumped.ensures.stops c.in_ok-hand_on.ensures.ok c.pump_turns-pumped.ensures.pumps
