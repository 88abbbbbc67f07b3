use Rattle.xcp_slave.proofs.AcceptedCommandLaws.{connect-mta, disconnect-mta, hangup-mta}
use Rattle.xcp_slave.proofs.accepting.sessions_clear_the_mta.Goals as goal

pub returns-clause-connect : goal.returns-clause-connect
returns-clause-connect c = connect-mta

pub returns-clause-disconnect : goal.returns-clause-disconnect
returns-clause-disconnect c = disconnect-mta

pub returns-clause-hangup : goal.returns-clause-hangup
returns-clause-hangup c = hangup-mta
