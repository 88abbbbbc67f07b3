use Rattle.xcp_slave.proofs.PageLaws.{store-fills, store-others, store-sides}
use Rattle.xcp_slave.proofs.runs.a_store_fills_the_reference_pages.Goals as goal

pub returns-clause-frozen : goal.returns-clause-frozen
returns-clause-frozen c = store-fills

pub returns-clause-others : goal.returns-clause-others
returns-clause-others c = store-others

pub returns-clause-sides : goal.returns-clause-sides
returns-clause-sides c = store-sides
