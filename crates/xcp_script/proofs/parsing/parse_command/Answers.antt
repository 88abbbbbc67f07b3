use Rattle.xcp_script.proofs.HexDigitLemmas.{faulty_in, read_as_it_stands}
use Rattle.xcp_script.proofs.parsing.parse_command.Goals as goal

pub returns-in_default : goal.returns-in_default
returns-in_default c = read_as_it_stands _ _ _ c.read_command.ensures (λ h. c.in_default.not-Faulty (faulty_in _ _ _ h))
