-- What the row of a command that only tells is.
use Rattle.std.specs.Prelude.{ℕ, List, Result}
use Rattle.xcp_packet.specs.declared.Command.{Command}
use Rattle.xcp_packet.specs.declared.Sent.{Sent}
use Rattle.xcp_packet.specs.declared.CommandError.{CommandError}
use Rattle.xcp_packet.specs.Rows.{Tells}
use Rattle.xcp_transfer.specs.TransferValue.{response_room}
use Rattle.xcp_slave.specs.SlaveValue.{SlaveValue, layout_of, noblock}
use Rattle.xcp_slave.specs.Rows.{row}

-- The command's row is met at v, and its reply stands in the packet that was lent, which has these bytes. A refusal leaves
-- the slave without its block.
unfoldable pub TellsRow : Command → SlaveValue → Result Sent CommandError → List ℕ → SlaveValue → Type 0
TellsRow c v r bytes w = Tells (layout_of v).order (response_room (layout_of v)) (row c v) (noblock v) r bytes w
