use Rattle.std.proofs.Common.{subst, ap, ◌∙◌}
use Rattle.xcp_memory.specs.Pages.{PagesValue, IsPages}
use Rattle.xcp_memory.specs.ComputedAccess.{segment_of}
use Rattle.xcp_memory.proofs.RangeLemmas.{locates}
use Rattle.xcp_memory.proofs.pages.Pages.locate.Goals as goal

pub returns-clause-located : goal.returns-clause-located
returns-clause-located c =
    locates c.args.self.now c.args.address c.args.n c.segment_of.result (subst IsPages c.self.view_is c.self.invariant) (c.segment_of.ensures.value ∙ ap (λ (v : PagesValue). segment_of v.layout c.args.address c.args.n) c.self.view_is)
