use Rattle.xcp_script.proofs.EventLineLemmas.{no_space_behind}
use Rattle.xcp_script.proofs.parsing.parse_signals.Goals as goal

pub returns-in_default : goal.returns-in_default
returns-in_default c = no_space_behind c.args.text.now c.in_default.ensures
