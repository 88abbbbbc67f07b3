use Rattle.std.proofs.Common.{◌∙◌, sym}
use Rattle.xcp_c.proofs.PartsLemmas.{ends_behind}
use Rattle.xcp_c.proofs.parts.end_of.Goals as goal

pub returns-in-None-clause-value : goal.returns-in-None-clause-value
returns-in-None-clause-value c = ends_behind c.args.bytes.now (sym c.first_zero.ensures ∙ c.in-None.is)
