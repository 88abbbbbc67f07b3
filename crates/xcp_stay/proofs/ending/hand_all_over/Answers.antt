use Rattle.std.proofs.Common.{◌∙◌}
use Rattle.xcp_stay.proofs.TeamLemmas.{set_same}
use Rattle.xcp_stay.proofs.ending.hand_all_over.Goals as goal

pub loop-member-preserved : goal.loop-member-preserved
loop-member-preserved g c =
    let at = c.loop-member in
    (c.hand_rest_over.ensures.1 ∙ at.invariant.0, set_same at.members at.member-index c.hand_rest_over.new.self c.member-item.result c.hand_rest_over.ensures.0 ∙ at.invariant.1)
