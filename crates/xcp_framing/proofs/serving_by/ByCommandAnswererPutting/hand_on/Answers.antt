use Rattle.xcp_framing.proofs.PutOutputLemmas.{unput_stops_any}
use Rattle.xcp_framing.proofs.serving_by.ByCommandAnswererPutting.hand_on.Goals as goal

pub returns-clause-stops : goal.returns-clause-stops
returns-clause-stops g c = unput_stops_any c.hand_on.result c.hand_on.ensures.err
