use Rattle.xcp_framing.proofs.WholeFrameLaws.{frames_are_framed}
use Rattle.xcp_framing.proofs.stream.each_stream_has_its_frames.Goals as goal

pub returns : goal.returns
returns c = frames_are_framed
