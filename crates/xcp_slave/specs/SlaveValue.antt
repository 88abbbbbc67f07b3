-- A slave as contracts see it.
use Rattle.std.specs.Prelude.{ℕ, Bool, false, List, [], None}
use Rattle.arrayvec.specs.ArrayVec.{ArrayVec}
use Rattle.xcp_memory.specs.Layout.{LayoutValue}
use Rattle.xcp_memory.specs.Pages.{PagesValue, opening_pages}
use Rattle.xcp_transfer.specs.declared.Mta.TheVariants.{Nowhere}
use Rattle.xcp_transfer.specs.TransferValue.{TransferValue, opening_transfer, without_block}
use Rattle.xcp_daq.specs.DaqLists.{DaqValue, opening_daq}

-- The slave's value: whether a tool is connected; what its transfers go by: the pages (and with them the layout and the
-- signals), the memory transfer address, and the block under way; the DAQ lists; the packets that wait to be sent, in order;
-- whether a store of the pages is requested; the time, in ticks of the layout's clock: the last that it was told; and whether a
-- sample was lost of which the tool hasn't been told yet.
pub record SlaveValue : Type 0 where
  pub connected : Bool
  pub transfer : TransferValue
  pub daq : DaqValue
  pub outbox : List (ArrayVec ℕ)
  pub store : Bool
  pub time : ℕ
  pub overloaded : Bool

-- the layout of a slave
abbrev pub layout_of : SlaveValue → LayoutValue
layout_of v = v.transfer.pages.layout

-- The opening: a slave that has just been made. Nobody is connected, the pages are as laid out, there is no DAQ list, no packet
-- waits, no store is requested, the time is 0, and no sample was lost.
abbrev pub opening : LayoutValue → SlaveValue
opening l = record { connected = false; transfer = opening_transfer (opening_pages l); daq = opening_daq l.class; outbox = []; store = false; time = 0; overloaded = false }

-- The slave without the block that is under way. A refusal leaves this.
abbrev pub noblock : SlaveValue → SlaveValue
noblock v = record v { transfer = without_block v.transfer }

-- the slave with other pages, without the block that is under way
abbrev pub with_pages : SlaveValue → PagesValue → SlaveValue
with_pages v pages = record v { transfer = record v.transfer { pages = pages; block = None } }

-- The end of a session: nobody is connected, the memory transfer address and a block under way are gone, and so are the DAQ
-- lists and the packets that wait, and nobody has to be told of a lost sample. Pages, their numbers and modes, the signals, a
-- store request and the time stay.
abbrev pub ended : SlaveValue → SlaveValue
ended v = record v { connected = false; transfer = record v.transfer { mta = Nowhere; block = None }; daq = opening_daq v.daq.class; outbox = []; overloaded = false }
