use Rattle.xcp_trace.proofs.TapeLaws.{strings_again}
use Rattle.xcp_trace.proofs.SpellingLaws.{entry_again, exchange_again}
use Rattle.xcp_trace.proofs.law.what_is_written_is_read_again.Goals as goal

pub returns-clause-strings : goal.returns-clause-strings
returns-clause-strings c = strings_again

pub returns-clause-exchange : goal.returns-clause-exchange
returns-clause-exchange c = exchange_again

pub returns-clause-entry : goal.returns-clause-entry
returns-clause-entry c = entry_again
