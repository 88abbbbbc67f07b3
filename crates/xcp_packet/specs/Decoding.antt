-- Why a list of bytes is no command, and what it decodes to.
-- ASAM MCD-1 XCP, protocol layer, table of standard error codes: ERR_CMD_UNKNOWN and ERR_CMD_SYNTAX.
use Rattle.std.specs.Prelude.{◌≡◌, ◌≢◌, ◌<◌, ℕ, List, [], length, Ok, Err, Result}
use Rattle.xcp_packet.specs.ByteOrder.{byte_at}
use Rattle.xcp_packet.specs.CommandForms.{code, least}
use Rattle.xcp_packet.specs.CommandSpelling.{spells}
use Rattle.xcp_packet.specs.declared.order.Order.{Order}
use Rattle.xcp_packet.specs.declared.command.Command.{Command}
use Rattle.xcp_packet.specs.declared.refuse.Refuse.{Refuse}
use Rattle.xcp_packet.specs.declared.refuse.Refuse.TheVariants.{Empty, Unknown, Short}

-- why the packet p is no command: it is empty, its first byte is no command's code, or it has fewer bytes than a
-- command with this code wants
abbrev pub Refused : Refuse → List ℕ → Type 0
Refused Empty p = p ≡ []
Refused Unknown p = (p ≢ []) × ((c : Command) → byte_at 0 p ≢ code c)
Refused Short p = (p ≢ []) × ((c : Command) × (byte_at 0 p ≡ code c) × (length p < least c))

-- the number of a reason
abbrev pub refuse_number : Refuse → ℕ
refuse_number Empty = 1
refuse_number Unknown = 2
refuse_number Short = 3

-- what the packet p decodes to: a command that it spells, or why it is none
abbrev pub Decodes : Order → List ℕ → Result Command Refuse → Type 0
Decodes order p (Ok command) = spells order command p
Decodes order p (Err reason) = Refused reason p
