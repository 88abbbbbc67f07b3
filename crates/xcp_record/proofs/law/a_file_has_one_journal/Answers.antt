use Rattle.std.proofs.Common.{sym}
use Rattle.xcp_record.proofs.ReadBackLemmas.{read_back, read_back_whole, same_layout, same_named}
use Rattle.xcp_record.proofs.law.a_file_has_one_journal.Goals as goal

pub returns-clause-chapters : goal.returns-clause-chapters
returns-clause-chapters c = λ roster layout bytes written read first second. read_back roster layout bytes read written second first

pub returns-clause-layout : goal.returns-clause-layout
returns-clause-layout c = same_layout

pub returns-clause-ending : goal.returns-clause-ending
returns-clause-ending c = λ roster layout bytes written read end other first second.
    let same = read_back_whole roster layout bytes written read end other first second in
    (sym same.0, same.1)

pub returns-clause-named : goal.returns-clause-named
returns-clause-named c = same_named
