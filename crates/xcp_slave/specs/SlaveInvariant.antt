-- What is true of a slave at any time.
use Rattle.std.specs.Prelude.{◌≡◌, ℕ, ◌+◌, ◌<◌, ◌≤◌, ◌⊎◌, true, false, length, slice_index, Option, Some, None, All}
use Rattle.arrayvec.specs.ArrayVec.{ArrayVec}
use Rattle.xcp_packet.specs.declared.Stamp.{Stamp}
use Rattle.xcp_packet.specs.declared.Stamp.TheVariants.{Without}
use Rattle.xcp_packet.specs.TimeStamps.{stamp_size}
use Rattle.xcp_memory.specs.ClassLimits.{limits_of}
use Rattle.xcp_memory.specs.Layout.{LayoutValue}
use Rattle.xcp_memory.specs.Memory.{LiesInside}
use Rattle.xcp_transfer.specs.Laws.{IsLawful}
use Rattle.xcp_daq.specs.declared.Element.{Element}
use Rattle.xcp_daq.specs.DaqLists.{DaqValue, DaqList, all_entries, odt_size, first_size}
use Rattle.xcp_daq.specs.DaqInvariant.{IsDaq}
use Rattle.xcp_slave.specs.declared.request.Request.{Request}
use Rattle.xcp_slave.specs.declared.request.Request.TheVariants as requests
use Rattle.xcp_slave.specs.SlaveValue.{SlaveValue, layout_of, ended}
use Rattle.xcp_slave.specs.Step.{outbox_size, store_event, overload_event}

-- a written entry lies in one area of the layout
abbrev pub LiesWritten : LayoutValue → Option Element → Type 0
LiesWritten l None = Unit {0}
LiesWritten l (Some e) = LiesInside l e.address e.size

-- a list has no time stamps, or those of the layout's clock
abbrev pub IsStampOf : LayoutValue → Stamp → Type 0
IsStampOf l stamp = (stamp ≡ Without) ⊎ (stamp ≡ l.clock.stamp)

-- the time stamps of a list are the clock's; while a list runs, each of its ODTs has at most MAX_DTO - 1 bytes, the first one with the time stamp
pub record FitsMaxDto (l : LayoutValue) (x : DaqList) : Type 0 where
  pub stamp : IsStampOf l x.stamp
  pub fits : x.running ≡ true → All (λ odt. odt_size odt < l.max_dto) x.odts
  pub first : x.running ≡ true → stamp_size x.stamp + first_size x.odts < l.max_dto

-- the lists of a slave with this layout
pub record IsLists (l : LayoutValue) (v : DaqValue) : Type 0 where
  pub class : v.class ≡ l.class
  pub daq : IsDaq v
  pub inside : All (LiesWritten l) (all_entries v.lists)
  pub room : All (FitsMaxDto l) v.lists

-- A data packet: a packet identifier (PID) below the number of ODTs that the class has, which is that of no response and no event, and behind it 1 to
-- MAX_DTO - 1 bytes.
-- (ASAM MCD-1 XCP, protocol layer: packet identification field; data packets.)
pub record IsDataPacket (l : LayoutValue) (p : ArrayVec ℕ) : Type 0 where
  pub pid : slice_index p.items 0 < (limits_of l.class).odts
  pub least : 2 ≤ length p.items
  pub most : length p.items ≤ l.max_dto

-- What waits is the event packet of a store, or, where the layout asks for it, that of a lost sample, or a data packet.
abbrev pub IsWaiting : LayoutValue → ArrayVec ℕ → Type 0
IsWaiting l p = (p ≡ store_event) ⊎ (((l.extras.tells_overload ≡ true) × (p ≡ overload_event)) ⊎ IsDataPacket l p)

-- A slave: its transfers and its lists are within the limits of its layout's class; no more packets wait than have room, each of them an event packet or a
-- data packet; a tool has to be told of a lost sample only where the layout asks for it; and while nobody is connected, the
-- slave is as the end of a session leaves it.
pub record IsSlave (v : SlaveValue) : Type 0 where
  pub transfer : IsLawful v.transfer
  pub lists : IsLists (layout_of v) v.daq
  pub few : length v.outbox ≤ outbox_size v
  pub waiting : All (IsWaiting (layout_of v)) v.outbox
  pub asked : v.overloaded ≡ true → (layout_of v).extras.tells_overload ≡ true
  pub idle : v.connected ≡ false → v ≡ ended v

-- a command packet is made of bytes
abbrev pub IsOfBytes : Request → Type 0
IsOfBytes (requests.Command packet) = All (λ byte. byte < 256) packet.items
IsOfBytes _ = Unit {0}
