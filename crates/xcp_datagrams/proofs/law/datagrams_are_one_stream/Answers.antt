use Rattle.xcp_datagrams.proofs.DatagramLaws.{fronts_are_a_stream}
use Rattle.xcp_datagrams.proofs.law.datagrams_are_one_stream.Goals as goal

pub returns : goal.returns
returns c = fronts_are_a_stream
