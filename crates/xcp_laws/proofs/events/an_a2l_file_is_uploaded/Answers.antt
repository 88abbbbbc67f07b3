use Rattle.xcp_laws.proofs.EventAnswers.{a2l-name-told, a2l-file-told, epk-told, a2l-name-start, a2l-file-start, epk-start, a2l-file-part}
use Rattle.xcp_laws.proofs.events.an_a2l_file_is_uploaded.Goals as goal

pub returns-clause-name_told : goal.returns-clause-name_told
returns-clause-name_told c = a2l-name-told

pub returns-clause-file_told : goal.returns-clause-file_told
returns-clause-file_told c = a2l-file-told

pub returns-clause-epk_told : goal.returns-clause-epk_told
returns-clause-epk_told c = epk-told

pub returns-clause-name_start : goal.returns-clause-name_start
returns-clause-name_start c = a2l-name-start

pub returns-clause-file_start : goal.returns-clause-file_start
returns-clause-file_start c = a2l-file-start

pub returns-clause-epk_start : goal.returns-clause-epk_start
returns-clause-epk_start c = epk-start

pub returns-clause-file_part : goal.returns-clause-file_part
returns-clause-file_part c = a2l-file-part
