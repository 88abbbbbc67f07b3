use Rattle.std.proofs.Common.{refl}
use Rattle.xcp_locked.proofs.PublicationLemmas.{published_same, published_other}
use Rattle.xcp_locked.proofs.PublicationLaws.{published_once, published_end}
use Rattle.xcp_locked.proofs.laws.publications_follow_the_run.Goals as goal

pub returns-clause-single : goal.returns-clause-single
returns-clause-single c = published_once

pub returns-clause-newest : goal.returns-clause-newest
returns-clause-newest c = published_end

pub returns-clause-same : goal.returns-clause-same
returns-clause-same c v xs w x u list p r a e = published_same v xs w x u list r a e p

pub returns-clause-other : goal.returns-clause-other
returns-clause-other c v xs w x u list p r a ne = published_other v xs w x u _ list r a refl ne p
