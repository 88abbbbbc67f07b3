use Rattle.std.proofs.Common.{◌≡◌, subst, arith, slice_index_or as get_or}
use Rattle.std.proofs.lemmas.Grind.{common_steps}
use Rattle.xcp_memory.specs.Layout.{IsLayout}
use Rattle.xcp_memory.specs.Pages.{no_segment}
use Rattle.xcp_memory.proofs.AreaLaws.{segment_last}
use Rattle.xcp_memory.proofs.layout.Layout.segment_address.Goals as goal

pub returns-clause-last : goal.returns-clause-last
returns-clause-last c =
    let h = segment_last _ _ (subst IsLayout c.self.view_is c.self.invariant) c.requires in
    let e : c.address.result ≡ (get_or c.args.self.now.segments c.args.segment no_segment).address = grind (arith, common_steps) in
    omega arith
