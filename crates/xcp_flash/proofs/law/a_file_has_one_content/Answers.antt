use Rattle.std.proofs.Common.{sym, ◌∙◌}
use Rattle.xcp_flash.proofs.FaultLemmas.{one_content}
use Rattle.xcp_flash.proofs.law.a_file_has_one_content.Goals as goal

pub returns : goal.returns
returns c = λ l digest other pages more first second same. one_content digest other pages more (first ∙ sym second) same
