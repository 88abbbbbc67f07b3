use Rattle.xcp_slave.proofs.PacketLengthLaws.{answers-length, answers-some}
use Rattle.xcp_slave.proofs.law.no_reply_is_longer_than_max_cto.Goals as goal

pub returns-clause-some : goal.returns-clause-some
returns-clause-some c = answers-some

pub returns-clause-most : goal.returns-clause-most
returns-clause-most c = answers-length
