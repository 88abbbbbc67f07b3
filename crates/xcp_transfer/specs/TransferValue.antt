-- What the tool's transfers go by, as contracts see it.
use Rattle.std.specs.Prelude.{◌≡◌, ℕ, ◌+◌, ◌-◌, ◌<◌, ◌≤◌, List, length, Option, Some, None, slice_index_or as get_or}
use Rattle.xcp_memory.specs.Layout.{LayoutValue, no_event, epk, description}
use Rattle.xcp_memory.specs.Pages.{PagesValue}
use Rattle.xcp_memory.specs.ComputedAccess.{write_refusal}
use Rattle.xcp_transfer.specs.declared.mta.Mta.{Mta}
use Rattle.xcp_transfer.specs.declared.mta.Mta.TheVariants.{Nowhere, Memory, Text}
use Rattle.xcp_transfer.specs.declared.mta.TextId.{TextId}
use Rattle.xcp_transfer.specs.declared.mta.TextId.TheVariants.{Id, Name, A2lName, A2lFile, Epk}

-- A block of a DOWNLOAD under way: its first address, how many bytes are still expected, and the bytes so far.
-- (ASAM MCD-1 XCP, protocol layer: master block transfer mode; description of commands: DOWNLOAD_NEXT.)
pub record BlockValue : Type 0 where
  pub address : ℕ
  pub expected : ℕ
  pub bytes : List ℕ

-- The pages, the memory transfer address (MTA), and the block under way, if there is one.
pub record TransferValue : Type 0 where
  pub pages : PagesValue
  pub mta : Mta
  pub block : Option BlockValue

-- the same with no block under way: this is all that a refusal takes away
abbrev pub without_block : TransferValue → TransferValue
without_block v = record v { block = None }

-- the most data bytes of a positive response: MAX_CTO, without its FF
abbrev pub response_room : LayoutValue → ℕ
response_room l = l.max_cto - 1

-- no address is set and no block is under way
abbrev pub opening_transfer : PagesValue → TransferValue
opening_transfer p = record { pages = p; mta = Nowhere; block = None }

-- the bytes of a text
abbrev pub text_of : LayoutValue → TextId → List ℕ
text_of l Id = l.id
text_of l (Name i) = (get_or l.events i no_event).name
text_of l A2lName = l.extras.a2l
text_of l A2lFile = description l.extras
text_of l Epk = epk l.extras

-- there is such a text
abbrev pub IsText : LayoutValue → TextId → Type 0
IsText l Id = Unit {0}
IsText l (Name i) = i < length l.events
IsText l A2lName = Unit {0}
IsText l A2lFile = Unit {0}
IsText l Epk = Unit {0}

-- a memory transfer address in a text stands inside it or at its end; any other is as it is set
abbrev pub IsMta : LayoutValue → Mta → Type 0
IsMta l Nowhere = Unit {0}
IsMta l (Memory a) = Unit {0}
IsMta l (Text id place) = IsText l id × (place ≤ length (text_of l id))

-- a block under way expects some byte, has at most 255 in all, and its whole range may be written
pub record IsBlock (p : PagesValue) (b : BlockValue) : Type 0 where
  pub some : 1 ≤ b.expected
  pub most : length b.bytes + b.expected ≤ 255
  pub writable : write_refusal p b.address (length b.bytes + b.expected) ≡ None

abbrev pub IsUnderWay : PagesValue → Option BlockValue → Type 0
IsUnderWay p None = Unit {0}
IsUnderWay p (Some b) = IsBlock p b

-- what is true of each slave's transfers
pub record IsTransfer (v : TransferValue) : Type 0 where
  pub mta : IsMta v.pages.layout v.mta
  pub block : IsUnderWay v.pages v.block
