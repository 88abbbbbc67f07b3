use Rattle.xcp_bank.proofs.LookLaws.{noted_looks_look}
use Rattle.xcp_bank.proofs.laws.one_history.Goals as goal

pub returns : goal.returns
returns c = λ W t b id r x at none j v w other there leads words y i b' did settled ends.
    noted_looks_look W t b id r x at none j v w other there leads words y i b' did settled ends.0 ends.1
