use Rattle.std.proofs.Common.{rules, [], false}
use Rattle.xcp_outlet.specs.PassKnowledge.{half}
use Rattle.xcp_outlet.proofs.ChannelRuleLemmas.{begins, cut_replies, cut_data}
use Rattle.xcp_outlet.proofs.opening.outlet.Goals as goal

pub bounded_with-requires-clause-rule : goal.bounded_with-requires-clause-rule
bounded_with-requires-clause-rule c = begins

pub another-replies-requires-clause-rule : goal.another-replies-requires-clause-rule
another-replies-requires-clause-rule c = cut_replies _ _ (half [] false) (search rules)

pub another-data-requires-clause-rule : goal.another-data-requires-clause-rule
another-data-requires-clause-rule c = cut_data _ _ (half [] false) (search rules)
