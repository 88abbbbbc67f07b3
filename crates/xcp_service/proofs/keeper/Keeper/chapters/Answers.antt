use Rattle.std.proofs.Common.{◌∙◌, ap, length}
use Rattle.xcp_service.specs.Keeping.{KeeperValue}
use Rattle.xcp_service.proofs.JoinedMoreLemmas.{count_of}
use Rattle.xcp_service.proofs.keeper.Keeper.chapters.Goals as goal

pub returns : goal.returns
returns g c = count_of g.N.Name.layout c.self.inside.chapters.list c.self.inside.number c.self.inside.before _ c.self.invariant.0 ∙ ap (λ (k : KeeperValue). length k.chapters) c.self.view_is
