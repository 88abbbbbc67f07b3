use Rattle.std.proofs.Common.{◌≡◌, ◌+◌, ℕ, length, map}
use Rattle.xcp_slave.specs.Run.{Run}
use Rattle.xcp_trace.specs.EntrySpelling.{entry_in}
use Rattle.xcp_record.specs.JournalFile.{exchanges}
use Rattle.xcp_record.specs.private.Calls.{Walks}
use Rattle.xcp_record.proofs.auditing.check_calls.Given as goal

abbrev pub invariant-loop-left : goal.invariant-loop-left
invariant-loop-left g l = (n : ℕ) × (w : Walks l.bytes l.left n) × Run l.fn.slave (exchanges (map entry_in w.done)) l.slave × (l.place ≡ l.before + n) × g.T.Witness.hears l.fn.witness l.roster (map entry_in w.done) l.witness

abbrev pub decreases-loop-left : goal.decreases-loop-left
decreases-loop-left g l = length l.left
