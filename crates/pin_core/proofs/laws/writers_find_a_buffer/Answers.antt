use Rattle.pin_core.proofs.IdleBufferLaws.{some_idle}
use Rattle.pin_core.proofs.HeldBufferLaws.{only_current}
use Rattle.pin_core.proofs.ScanLaws.{scans_find}
use Rattle.pin_core.proofs.laws.writers_find_a_buffer.Goals as goal

pub returns-clause-some_idle : goal.returns-clause-some_idle
returns-clause-some_idle c = some_idle

pub returns-clause-only_current_gains : goal.returns-clause-only_current_gains
returns-clause-only_current_gains c = only_current

pub returns-clause-scans_find : goal.returns-clause-scans_find
returns-clause-scans_find c = scans_find
