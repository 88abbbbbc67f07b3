use Rattle.xcp_laws.proofs.LaterCommands.{version-told}
use Rattle.xcp_laws.proofs.infos.a_version_is_told.Goals as goal

pub returns : goal.returns
returns c = version-told
