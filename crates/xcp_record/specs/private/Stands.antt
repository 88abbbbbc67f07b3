-- How far an audit has come.
use Rattle.std.specs.Prelude.{◌≡◌, ◌≤◌, ◌*◌, ℕ, List, length, Option}
use Rattle.sha2.specs.declared.Sha256.{Sha256}
use Rattle.sha2.specs.Hashers.{Holds256}
use Rattle.xcp_slave.specs.SlaveValue.{SlaveValue}
use Rattle.xcp_trace.specs.declared.Entry.{Entry}
use Rattle.xcp_record.specs.declared.roster.Roster.{Roster}
use Rattle.xcp_record.specs.JournalFile.{calls_of}
use Rattle.xcp_record.specs.Audit.{Settles}

-- All that was read is settled, and so many chapters and calls; the hasher holds it, the slave has executed it, and the calls were told.
pub record AuditStands (roster : Option Roster) (layout : List ℕ) (v : SlaveValue) (Read : List ℕ → Type 0) (Told : List Entry → Type 0) (hasher : Sha256) (slave : SlaveValue) (number calls : ℕ) : Type 0 where
  pub read : List ℕ
  pub was : Read read
  pub held : Holds256 hasher read
  pub settled : Settles roster layout v read calls
  pub last : settled.last ≡ slave
  pub told : Told (calls_of settled.chapters)
  pub numbered : length settled.chapters ≡ number
  pub few : calls ≤ number * 65536
