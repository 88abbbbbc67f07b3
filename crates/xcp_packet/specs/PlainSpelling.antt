-- The plain spelling of a command: zeros as reserved bytes, and nothing behind the last parameter.
-- ASAM MCD-1 XCP, protocol layer, description of commands.
use Rattle.std.specs.Prelude.{ℕ, List, [], ◌∷◌, ◌++◌, ◌+◌, ◌-◌, ◌<◌, ◌≤◌, ◌^◌, length, replicate, ⊤}
use Rattle.xcp_packet.specs.ByteOrder.{word_bytes, double_bytes}
use Rattle.xcp_packet.specs.CommandForms.{Parameter, byte, word, double, rest, code, parameters}
use Rattle.xcp_packet.specs.declared.order.Order.{Order}
use Rattle.xcp_packet.specs.declared.command.Command.{Command}

-- the place of a parameter's first byte
abbrev pub place_of : Parameter → ℕ
place_of (byte place x) = place
place_of (word place x) = place
place_of (double place x) = place
place_of (rest place bytes) = place

-- how many bytes a parameter has
abbrev pub width_of : Parameter → ℕ
width_of (byte place x) = 1
width_of (word place x) = 2
width_of (double place x) = 4
width_of (rest place bytes) = length bytes.items

-- a parameter's bytes
abbrev pub bytes_in : Order → Parameter → List ℕ
bytes_in order (byte place x) = x ∷ []
bytes_in order (word place x) = word_bytes order x
bytes_in order (double place x) = double_bytes order x
bytes_in order (rest place bytes) = bytes.items

-- the bytes from this place on: each parameter at its place, and zeros between them
abbrev pub laid : Order → ℕ → List Parameter → List ℕ
laid order at [] = []
laid order at (x ∷ xs) = replicate (place_of x - at) 0 ++ (bytes_in order x ++ laid order (place_of x + width_of x) xs)

-- the plain spelling
abbrev pub plain : Order → Command → List ℕ
plain order c = code c ∷ laid order 1 (parameters c)

-- the place behind the last parameter
abbrev pub end_of : ℕ → List Parameter → ℕ
end_of at [] = at
end_of at (x ∷ xs) = end_of (place_of x + width_of x) xs

-- how many bytes the plain spelling has
abbrev pub plain_length : Command → ℕ
plain_length c = end_of 1 (parameters c)

-- one packet holds the plain spelling
abbrev pub OnePacket : Command → Type 0
OnePacket c = plain_length c ≤ 255

-- the value of the parameter has its width
abbrev pub HasWidth : Parameter → Type 0
HasWidth (byte place x) = x < 2 ^ 8
HasWidth (word place x) = x < 2 ^ 16
HasWidth (double place x) = x < 2 ^ 32
HasWidth (rest place bytes) = ⊤

-- each of the parameters does
abbrev pub AllHaveWidth : List Parameter → Type 0
AllHaveWidth [] = ⊤
AllHaveWidth (x ∷ xs) = HasWidth x × AllHaveWidth xs

-- each parameter of the command has its width; the values of the type are such
abbrev pub HasWidths : Command → Type 0
HasWidths c = AllHaveWidth (parameters c)
