use Rattle.std.proofs.Common.{sym}
use Rattle.xcp_trace.proofs.journal.Entries.bytes.Goals as goal

pub returns : goal.returns
returns c = record { strings = c.self.inside.strings; each = c.self.invariant; whole = sym c.bytes.ensures; spells = c.self.view_is }
