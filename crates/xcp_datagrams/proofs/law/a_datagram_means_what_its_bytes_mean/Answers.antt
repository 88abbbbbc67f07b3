use Rattle.xcp_datagrams.proofs.DatagramLaws.{datagram_is_a_stream}
use Rattle.xcp_datagrams.proofs.law.a_datagram_means_what_its_bytes_mean.Goals as goal

pub returns : goal.returns
returns c = datagram_is_a_stream
