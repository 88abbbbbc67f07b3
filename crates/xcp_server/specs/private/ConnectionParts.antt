-- The parts of a connection whose stations submit for callers.
use Rattle.std.specs.Prelude.{◌≡◌, ℕ, List, Option}
use Rattle.xcp_framing.specs.CountedCalls.{Watched}
use Rattle.xcp_connection.specs.Closing.{IsClosingOf}
use Rattle.xcp_connection.specs.Parts.{CameOf, Connection, IsConnectionOf, Parted}
use Rattle.xcp_connection.specs.declared.closing.Closed.{Closed}
use Rattle.xcp_connection.specs.declared.hearing.Heard.{Heard}
use Rattle.xcp_connection.specs.declared.pumping.Pumped.{Pumped}
use Rattle.xcp_connection.specs.declared.connection.Limits.{Limits}
use Rattle.xcp_locked.specs.Caller.{CallerValue}
use Rattle.xcp_locked.specs.Receipts.{exchanges_of}
use Rattle.xcp_locked.specs.Tasks.{Same}
use Rattle.xcp_locked.specs.declared.tool.Tool.{Tool}

-- the connection of this reader, within these limits, whichever its outlet and whoever its stations are
abbrev pub IsConnectionWithin : {N T S I P F : Type 0} → Limits → Watched I → Connection N T S I P F → Type 0
IsConnectionWithin limits reader c = IsConnectionOf limits reader c.0.replies.outlet c.0.station c.1.station c

-- what came of a connection of one passage, where a station's exchanges are those of its caller's receipts
abbrev pub CameOfTools : {N T R I P F : Type 0} → (I → Option (List ℕ)) → Connection N T (Tool N R) I P F → Heard (Tool N R) I × Pumped (Tool N R) → Type 0
CameOfTools remaining = CameOf (λ t. exchanges_of t.caller.receipts) (λ old new. Same old.caller new.caller) ⊥ remaining

-- what came of a connection, with the callers of their stations in place of these
abbrev pub with_callers : {N R I O : Type 0} → Parted (Tool N R) I O → Parted CallerValue I O
with_callers d = (
  record { station = d.0.station.caller; outcome = d.0.outcome; reader = d.0.reader; put = d.0.put },
  record { station = d.1.station.caller; outcome = d.1.outcome; put = d.1.put },
  d.2,
)

-- that, put together
abbrev pub IsEndOf : {N R I O : Type 0} → Parted (Tool N R) I O → Closed CallerValue I O → Type 0
IsEndOf d = IsClosingOf (with_callers d)
