use Rattle.xcp_script.proofs.WordLemmas.{may_begin}
use Rattle.xcp_script.proofs.parsing.may_begin_word.Goals as goal

pub returns-in-len1-up : goal.returns-in-len1-up
returns-in-len1-up c = may_begin c.args.line.now c.requires.some c.requires.short
