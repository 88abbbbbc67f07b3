use Rattle.xcp_locked.proofs.TaskImageLaws.{acquire_looks, reads_look_at_nothing}
use Rattle.xcp_locked.proofs.laws.acquiring_is_looking.Goals as goal

pub returns-clause-acquire : goal.returns-clause-acquire
returns-clause-acquire c = acquire_looks

pub returns-clause-read : goal.returns-clause-read
returns-clause-read c = reads_look_at_nothing
