use Rattle.xcp_laws.proofs.ToldLimits.{connect-intel, connect-motorola, connect-accepted}
use Rattle.xcp_laws.proofs.infos.a_session_begins_with_the_limits.Goals as goal

pub returns-clause-intel : goal.returns-clause-intel
returns-clause-intel c = connect-intel

pub returns-clause-motorola : goal.returns-clause-motorola
returns-clause-motorola c = connect-motorola

pub returns-clause-accepted : goal.returns-clause-accepted
returns-clause-accepted c = connect-accepted
