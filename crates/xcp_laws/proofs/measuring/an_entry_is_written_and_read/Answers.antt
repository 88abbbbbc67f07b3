use Rattle.xcp_laws.proofs.WrittenEntries.{entry-written, entry-others, lists-kept, write-next, write-last, entry-told, unwritten-told, read-next, read-last, written-read}
use Rattle.xcp_laws.proofs.measuring.an_entry_is_written_and_read.Goals as goal

pub returns-clause-written : goal.returns-clause-written
returns-clause-written c = entry-written

pub returns-clause-others : goal.returns-clause-others
returns-clause-others c = entry-others

pub returns-clause-lists : goal.returns-clause-lists
returns-clause-lists c = lists-kept

pub returns-clause-next : goal.returns-clause-next
returns-clause-next c = write-next

pub returns-clause-last : goal.returns-clause-last
returns-clause-last c = write-last

pub returns-clause-told : goal.returns-clause-told
returns-clause-told c = entry-told

pub returns-clause-unwritten : goal.returns-clause-unwritten
returns-clause-unwritten c = unwritten-told

pub returns-clause-read_next : goal.returns-clause-read_next
returns-clause-read_next c = read-next

pub returns-clause-read_last : goal.returns-clause-read_last
returns-clause-read_last c = read-last

pub returns-clause-back : goal.returns-clause-back
returns-clause-back c = written-read
