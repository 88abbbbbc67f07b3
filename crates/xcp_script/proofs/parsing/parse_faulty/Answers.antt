use Rattle.std.proofs.Common.{sym}
use Rattle.xcp_script.proofs.HexDigitLemmas.{no_space_out}
use Rattle.xcp_script.proofs.parsing.parse_faulty.Goals as goal

pub returns : goal.returns
returns c = rw (no_space_out c.args.line.now (sym c.if-contains.ensures.value)) (sym c.requires.faulty)
