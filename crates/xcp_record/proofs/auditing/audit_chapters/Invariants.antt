use Rattle.std.proofs.Common.{◌≡◌}
use Rattle.std.specs.Io.KnownBytes.{Consumes}
use Rattle.xcp_record.specs.private.Stands.{AuditStands}
use Rattle.xcp_record.proofs.auditing.audit_chapters.Given as goal

abbrev pub invariant-loop-number : goal.invariant-loop-number
invariant-loop-number g l = record {
  stands : AuditStands l.roster l.layout l.fn.slave (Consumes (g.R.Read.remaining l.fn.reader.inner) (g.R.Read.remaining l.reader.inner)) (λ calls. g.T.Witness.hears l.fn.witness l.roster calls l.witness) l.hasher l.slave
      l.number l.calls;
  failures : l.reader.failures ≡ l.fn.reader.failures;
}
