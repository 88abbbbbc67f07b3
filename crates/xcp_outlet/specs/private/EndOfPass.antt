-- Which end a side is.
use Rattle.std.specs.Prelude.{Bool}
use Rattle.crossbeam_channel.specs.Claims.{Pass}
use Rattle.xcp_outlet.specs.declared.message.Message.{Message}
use Rattle.xcp_outlet.specs.PassKnowledge.{PassKnown, half_of}
use Rattle.xcp_outlet.specs.OutletEnds.{knows, outlet_of, EndSeen, some_half}

abbrev pub seen_end : Bool → Pass Message PassKnown → EndSeen
seen_end side p = record { outlet = outlet_of p; side = side; put = (some_half (half_of side (knows p))).put }
