use Rattle.std.proofs.Common.{◌≡◌, ◌≤◌, ◌-◌, take}
use Rattle.std.specs.Io.KnownBytes.{Consumes}
use Rattle.xcp_audit.proofs.head.fill.Given as goal

abbrev pub invariant-loop-count : goal.invariant-loop-count
invariant-loop-count g l = record {
  within : l.count ≤ 38;
  bytes : Consumes (g.R.Read.remaining l.fn.file.inner) (g.R.Read.remaining l.file.inner) (take l.count l.bytes);
  failures : l.file.failures ≡ l.fn.file.failures;
}

abbrev pub decreases-loop-count : goal.decreases-loop-count
decreases-loop-count g l = 38 - l.count
