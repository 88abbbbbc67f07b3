-- What is true of the acquisition lists at any time.
use Rattle.std.specs.Prelude.{◌≡◌, ◌^◌, ◌+◌, ◌<◌, ◌≤◌, List, true, false, length, Option, Some, None, All}
use Rattle.xcp_packet.specs.declared.Stamp.{Stamp}
use Rattle.xcp_packet.specs.TimeStamps.{stamp_size}
use Rattle.xcp_memory.specs.ClassLimits.{limits_of}
use Rattle.xcp_daq.specs.declared.element.Element.{Element}
use Rattle.xcp_daq.specs.declared.pointer.Pointer.{Pointer}
use Rattle.xcp_daq.specs.DaqLists.{DaqValue, DaqList, list_at, odt_at, all_odts, all_entries, odt_size, first_size}

-- a written entry has 1 to 254 bytes, and an address of four bytes
abbrev pub IsEntry : Option Element → Type 0
IsEntry None = Unit {0}
IsEntry (Some e) = (1 ≤ e.size) × (e.size ≤ 254) × (e.address < 2 ^ 32)

-- each ODT has room in a data packet, the first one behind the time stamp
pub record FitsPackets (stamp : Stamp) (odts : List (List (Option Element))) : Type 0 where
  pub each : All (λ odt. odt_size odt ≤ 254) odts
  pub first : stamp_size stamp + first_size odts ≤ 254

-- the numbers of a list are within their words and bytes; it has a prescaler, and counts below it, from 0 while it
-- is stopped; while it runs, each of its ODTs has room in a data packet
pub record IsList (l : DaqList) : Type 0 where
  pub event : l.event < 2 ^ 16
  pub prescaler_least : 1 ≤ l.prescaler
  pub prescaler_most : l.prescaler ≤ 255
  pub priority : l.priority ≤ 255
  pub since : l.since < l.prescaler
  pub still : l.running ≡ false → l.since ≡ 0
  pub fits : l.running ≡ true → FitsPackets l.stamp l.odts

-- the pointer names an entry that there is
pub record IsPointer (v : DaqValue) (p : Pointer) : Type 0 where
  pub list : p.list < length v.lists
  pub odt : p.odt < length (list_at v p.list).odts
  pub entry : p.entry < length (odt_at v p.list p.odt)

-- so does the pointer, where there is one
abbrev pub IsPointerOf : DaqValue → Option Pointer → Type 0
IsPointerOf v None = Unit {0}
IsPointerOf v (Some p) = IsPointer v p

-- there are no more lists, ODTs and entries than the class has, each list and each entry is lawful, and so is the pointer
pub record IsDaq (v : DaqValue) : Type 0 where
  pub lists : length v.lists ≤ (limits_of v.class).lists
  pub odts : length (all_odts v.lists) ≤ (limits_of v.class).odts
  pub entries : length (all_entries v.lists) ≤ (limits_of v.class).entries
  pub each : All IsList v.lists
  pub written : All IsEntry (all_entries v.lists)
  pub pointer : IsPointerOf v v.pointer
