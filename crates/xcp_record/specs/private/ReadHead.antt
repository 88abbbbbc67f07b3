-- What is read of a file's head.
use Rattle.std.specs.Prelude.{◌≡◌, ◌≢◌, ℕ, List, ◌++◌, length, drop, Option, Result, Ok, Err}
use Rattle.sha2.specs.declared.Sha256.{Sha256}
use Rattle.sha2.specs.Hashers.{Holds256}
use Rattle.xcp_record.specs.declared.fault.AuditFault.{AuditFault}
use Rattle.xcp_record.specs.declared.fault.AuditFault.TheVariants as faults
use Rattle.xcp_record.specs.declared.roster.Roster.{Roster}
use Rattle.xcp_record.specs.FileFormat.{head}
use Rattle.xcp_record.specs.Audit.{IsForeign}

-- a head of some layout with this roster or none, or what stands in its place, where these bytes of it were read before
abbrev pub ReadsRoster : List ℕ → Type 0 → List ℕ → Result (Option Roster) AuditFault → Type 0
ReadsRoster first End read (Ok roster) = first ++ read ≡ head roster (drop 6 first)
ReadsRoster first End read (Err faults.Foreign) = IsForeign End (first ++ read)
ReadsRoster first End read (Err faults.Read) = Unit {0}
ReadsRoster first End read (Err e) = ⊥

-- the head of this layout with this roster or none, which the hasher holds then; or what stands in its place
abbrev pub ReadsHead : List ℕ → Type 0 → List ℕ → Sha256 → Result (Option Roster) AuditFault → Type 0
ReadsHead layout End read hasher (Ok roster) = (read ≡ head roster layout) × Holds256 hasher read
ReadsHead layout End read hasher (Err faults.OtherLayout) = (roster : Option Roster) × (other : List ℕ) × (length other ≡ 32) × (other ≢ layout) × (read ≡ head roster other)
ReadsHead layout End read hasher (Err faults.Foreign) = IsForeign End read
ReadsHead layout End read hasher (Err faults.Read) = Unit {0}
ReadsHead layout End read hasher (Err e) = ⊥
