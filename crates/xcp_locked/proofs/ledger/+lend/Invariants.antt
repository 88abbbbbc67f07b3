use Rattle.std.specs.Prelude.{length}
use Rattle.xcp_locked.proofs.ledger.+lend.Given as goal

abbrev pub decreases-lend : goal.decreases-lend
decreases-lend g l = length l.callers.now
