use denote.Param.Send.{sendable}
use Rattle.std.proofs.Crossing.{crosses}
use Rattle.xcpd.proofs.CrossingLemmas.{both_crosses, counting_crosses, flashing_crosses, place_crosses}
use Rattle.xcpd.proofs.stay.stay_with.Goals as goal

pub stay-requires-send-S : goal.stay-requires-send-S
stay-requires-send-S g c κs within = search (sendable, crosses, both_crosses, counting_crosses, flashing_crosses, place_crosses) depth 24
