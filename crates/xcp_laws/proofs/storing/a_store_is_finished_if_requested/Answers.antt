use Rattle.std.proofs.Common.{ap}
use Rattle.xcp_memory.specs.declared.Class.{Class}
use Rattle.xcp_memory.specs.ClassLimits.{limits_of}
use Rattle.xcp_laws.proofs.Stores.{none-finished, store-later, store-finished, store-told, store-untold}
use Rattle.xcp_laws.proofs.storing.a_store_is_finished_if_requested.Goals as goal

pub returns-clause-none : goal.returns-clause-none
returns-clause-none c = none-finished

pub returns-clause-later : goal.returns-clause-later
returns-clause-later c = store-later

pub returns-clause-stored : goal.returns-clause-stored
returns-clause-stored c = store-finished

pub returns-clause-told : goal.returns-clause-told
returns-clause-told c = store-told

pub returns-clause-untold : goal.returns-clause-untold
returns-clause-untold c = store-untold

pub returns-clause-papers : goal.returns-clause-papers
returns-clause-papers c = λ v e. ap (λ (class : Class). (limits_of class).packets) e
