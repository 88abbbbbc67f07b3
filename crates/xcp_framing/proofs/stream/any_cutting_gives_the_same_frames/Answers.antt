use Rattle.xcp_framing.proofs.FrameCutLaws.{cuts_alike}
use Rattle.xcp_framing.proofs.stream.any_cutting_gives_the_same_frames.Goals as goal

pub returns : goal.returns
returns c = cuts_alike
