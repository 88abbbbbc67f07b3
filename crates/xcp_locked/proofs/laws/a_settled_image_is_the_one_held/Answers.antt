use Rattle.xcp_locked.proofs.SettledReaderLemmas.{settled_image}
use Rattle.xcp_locked.proofs.laws.a_settled_image_is_the_one_held.Goals as goal

pub returns : goal.returns
returns c = settled_image
