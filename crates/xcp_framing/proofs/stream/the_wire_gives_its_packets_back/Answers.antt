use Rattle.xcp_framing.proofs.RoundTripLaws.{wire_comes_back}
use Rattle.xcp_framing.proofs.stream.the_wire_gives_its_packets_back.Goals as goal

pub returns : goal.returns
returns c = wire_comes_back
