use Rattle.xcp_locked.proofs.PublicationLaws.{published_in_part}
use Rattle.xcp_locked.proofs.laws.places_are_the_least.Goals as goal

pub returns : goal.returns
returns c = published_in_part
