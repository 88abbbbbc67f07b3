-- How much may wait to be written.
use Rattle.std.specs.Prelude.{◌≡◌, ◌<◌, ◌≤◌, ◌+◌, ◌⊎◌, ℕ, true, false}
use Rattle.xcp_behind.specs.declared.room.Progress.{Progress}
use Rattle.xcp_behind.specs.declared.room.Progress.TheVariants.{Written, Pending, Stopped}
use Rattle.xcp_behind.specs.Bounds.{most_bytes, most_pieces}
use Rattle.xcp_behind.specs.declared.room.WaitingRoom.{WaitingRoom}

-- A piece of so many bytes finds room: nothing was refused before, and with it there are no more pieces and bytes than may be.
abbrev pub HasRoom : WaitingRoom → ℕ → Type 0
HasRoom room size = (room.given_up ≡ false) × (room.pieces < most_pieces) × (room.bytes + size ≤ most_bytes)

-- It doesn't: something was refused before, or with it there would be more.
abbrev pub IsFull : WaitingRoom → ℕ → Type 0
IsFull room size = (room.given_up ≡ true) ⊎ ((most_pieces ≤ room.pieces) ⊎ (most_bytes < room.bytes + size))

-- The writing is so far: all that was taken in is written; or not, and it may be yet; or not, and it never will be.
abbrev pub IsProgress : WaitingRoom → Progress → Type 0
IsProgress room Written = room.pieces ≡ 0
IsProgress room Pending = (0 < room.pieces) × (room.stopped ≡ false)
IsProgress room Stopped = (0 < room.pieces) × (room.stopped ≡ true)
