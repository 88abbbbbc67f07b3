use Rattle.std.proofs.Common.{[]}
use Rattle.xcp_script.proofs.LongLineLemmas.{last_is_one}
use Rattle.xcp_script.proofs.script.Pending.finish.Goals as goal

pub returns-clause-memory : goal.returns-clause-memory
returns-clause-memory c = λ h. rw (last_is_one c.args.self.now.liner.held.items c.if-is_empty.ensures) (rw c.as_slice.ensures.value at c.answer_line.ensures.memory h [])

pub returns-clause-short : goal.returns-clause-short
returns-clause-short c = λ h. rw (last_is_one c.args.self.now.liner.held.items (c.if-is_empty.ensures)) (rw c.as_slice.ensures.value at c.answer_line.ensures.short h [])
