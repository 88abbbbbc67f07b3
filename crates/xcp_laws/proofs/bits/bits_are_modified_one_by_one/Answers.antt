use Rattle.xcp_laws.proofs.ModifiedBits.{named-bit, other-bit, no-higher-bit}
use Rattle.xcp_laws.proofs.bits.bits_are_modified_one_by_one.Goals as goal

pub returns-clause-named : goal.returns-clause-named
returns-clause-named c = named-bit

pub returns-clause-others : goal.returns-clause-others
returns-clause-others c = other-bit

pub returns-clause-double_word : goal.returns-clause-double_word
returns-clause-double_word c = no-higher-bit
