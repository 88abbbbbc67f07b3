use Rattle.xcp_daq.proofs.SampleBoundLaws.{bounded}
use Rattle.xcp_daq.proofs.sample_laws.samples_are_bounded.Goals as goal

pub returns : goal.returns
returns c = bounded
