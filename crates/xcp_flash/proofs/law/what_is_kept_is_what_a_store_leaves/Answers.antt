use Rattle.xcp_flash.proofs.KeptLemmas.{kept_sized, others_kept, store_leaves}
use Rattle.xcp_flash.proofs.law.what_is_kept_is_what_a_store_leaves.Goals as goal

pub returns-clause-sized : goal.returns-clause-sized
returns-clause-sized c = kept_sized

pub returns-clause-stored : goal.returns-clause-stored
returns-clause-stored c = store_leaves

pub returns-clause-others : goal.returns-clause-others
returns-clause-others c = others_kept
