-- The spelling relation: which lists of bytes spell a command.
-- ASAM MCD-1 XCP, protocol layer, description of commands.
use Rattle.std.specs.Prelude.{◌≡◌, ◌≤◌, ℕ, List, [], ◌∷◌, length, drop, ⊤}
use Rattle.xcp_packet.specs.ByteOrder.{byte_at, word_at, double_at}
use Rattle.xcp_packet.specs.CommandForms.{Parameter, byte, word, double, rest, code, least, parameters}
use Rattle.xcp_packet.specs.declared.order.Order.{Order}
use Rattle.xcp_packet.specs.declared.command.Command.{Command}

-- the packet p begins with this code and has at least so many bytes
pub record BeginsCommand (code least : ℕ) (p : List ℕ) : Type 0 where
  pub first : byte_at 0 p ≡ code
  pub enough : least ≤ length p

-- the parameter has the value that stands at its place in p; the rest are all bytes from there on
abbrev pub HasParameter : Order → Parameter → List ℕ → Type 0
HasParameter order (byte place x) p = x ≡ byte_at place p
HasParameter order (word place x) p = x ≡ word_at order place p
HasParameter order (double place x) p = x ≡ double_at order place p
HasParameter order (rest place bytes) p = bytes.items ≡ drop place p

-- each of the parameters does
abbrev pub AllStand : Order → List Parameter → List ℕ → Type 0
AllStand order [] p = ⊤
AllStand order (x ∷ xs) p = HasParameter order x p × AllStand order xs p

-- The packet p spells the command: the command's code stands first, no byte of its parameters is missing, and each
-- parameter has the value at its place. Reserved bytes and bytes behind the last parameter are free.
abbrev pub spells : Order → Command → List ℕ → Type 0
spells order c p = BeginsCommand (code c) (least c) p × AllStand order (parameters c) p
