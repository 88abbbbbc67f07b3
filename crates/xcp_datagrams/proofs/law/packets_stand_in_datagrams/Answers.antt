use Rattle.xcp_datagrams.proofs.DatagramLaws.{packets_in_datagrams}
use Rattle.xcp_datagrams.proofs.law.packets_stand_in_datagrams.Goals as goal

pub returns : goal.returns
returns c = packets_in_datagrams
