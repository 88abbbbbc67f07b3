use Rattle.xcp_script.specs.private.LineReading.{lines_from}
use Rattle.xcp_script.proofs.LineReadingLaws.{lines_of, one_list_only}
use Rattle.std.proofs.Common.{[]}
use Rattle.xcp_script.proofs.law.each_text_has_its_lines.Goals as goal

pub returns-clause-some : goal.returns-clause-some
returns-clause-some c = λ text. (lines_from [] text, lines_of text)

pub returns-clause-only : goal.returns-clause-only
returns-clause-only c = one_list_only
