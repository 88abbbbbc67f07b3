use Rattle.xcp_slave.proofs.UnaffectedPartLaws.{connect-alone, disconnect-alone, hangup-alone}
use Rattle.xcp_slave.proofs.beside.sessions_begin_and_end.Goals as goal

pub returns-clause-connect : goal.returns-clause-connect
returns-clause-connect c = connect-alone

pub returns-clause-disconnect : goal.returns-clause-disconnect
returns-clause-disconnect c = disconnect-alone

pub returns-clause-hangup : goal.returns-clause-hangup
returns-clause-hangup c = hangup-alone
