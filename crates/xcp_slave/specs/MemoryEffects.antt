-- Which requests write, switch, copy or store, and what the others keep of the memory.
use Rattle.std.specs.Prelude.{◌≡◌, ◌≢◌, ◌↔◌, ◌⊎◌, ℕ, ◌+◌, ◌-◌, ◌&&◌, nat_le, nat_lt, List, [], ◌∷◌, ◌++◌, take, length, slice_index, Option, Some, None, if◌then◌else◌}
use Rattle.std.specs.Option.{option_or}
use Rattle.xcp_packet.specs.ByteOrder.{double_at, double_bytes}
use Rattle.xcp_packet.specs.CommandSpelling.{spells}
use Rattle.xcp_packet.specs.declared.Command.{Command}
use Rattle.xcp_packet.specs.declared.Command.TheVariants as commands
use Rattle.xcp_memory.specs.Memory.{Tool, Reads, Writes}
use Rattle.xcp_memory.specs.Pages.{PagesValue, segment_at}
use Rattle.xcp_transfer.specs.declared.Mta.TheVariants.{Memory}
use Rattle.xcp_transfer.specs.TransferValue.{TransferValue, BlockValue}
use Rattle.xcp_transfer.specs.Downloads.{modified}
use Rattle.xcp_slave.specs.Outcomes.{Answer}
use Rattle.xcp_slave.specs.declared.outcome.Outcome.TheVariants as answers
use Rattle.xcp_slave.specs.declared.exchange.Exchange.{Exchange}
use Rattle.xcp_slave.specs.declared.request.Request.{Request}
use Rattle.xcp_slave.specs.declared.request.Request.TheVariants as requests
use Rattle.xcp_slave.specs.SlaveValue.{SlaveValue, layout_of}
use Rattle.xcp_slave.specs.Step.{Answers}

-- no switch (SET_CAL_PAGE, EB), no copy (COPY_CAL_PAGE, E4) and no store
abbrev pub IsSteady : Request → Type 0
IsSteady (requests.Command packet) = (slice_index packet.items 0 ≢ 0xEB) × (slice_index packet.items 0 ≢ 0xE4)
IsSteady requests.FinishStore = ⊥
IsSteady _ = Unit {0}

-- nor new signals, as an event brings them
abbrev pub IsEventless : Request → Type 0
IsEventless (requests.Event channel signals) = ⊥
IsEventless (requests.Signals place bytes) = ⊥
IsEventless q = IsSteady q

-- nor a write (DOWNLOAD, F0, DOWNLOAD_NEXT, EF, DOWNLOAD_MAX, EE, SHORT_DOWNLOAD, ED, MODIFY_BITS, EC)
pub record IsNoWrite (packet : List ℕ) : Type 0 where
  pub download : slice_index packet 0 ≢ 0xF0
  pub next : slice_index packet 0 ≢ 0xEF
  pub max : slice_index packet 0 ≢ 0xEE
  pub short : slice_index packet 0 ≢ 0xED
  pub bits : slice_index packet 0 ≢ 0xEC

abbrev pub IsReading : Request → Type 0
IsReading (requests.Command packet) = (slice_index packet.items 0 ≢ 0xEB) × (slice_index packet.items 0 ≢ 0xE4) × IsNoWrite packet.items
IsReading q = IsEventless q

-- the same bytes on the same pages of both sides
pub record SameMemory (p q : PagesValue) : Type 0 where
  pub layout : q.layout ≡ p.layout
  pub signals : q.signals ≡ p.signals
  pub count : length q.segments ≡ length p.segments
  pub pages : (i : ℕ) → (segment_at q i).pages ≡ (segment_at p i).pages
  pub ecu : (i : ℕ) → (segment_at q i).ecu ≡ (segment_at p i).ecu
  pub xcp : (i : ℕ) → (segment_at q i).xcp ≡ (segment_at p i).xcp

-- a write: its first address, and its bytes
pub record Write : Type 0 where
  pub address : ℕ
  pub bytes : List ℕ

-- The command of a slave with these transfers puts this write: at the MTA, at its own address, or at the block's; its own
-- bytes, behind those of the block, or the double word that was read there with its bits modified.
-- (ASAM MCD-1 XCP, protocol layer, description of commands: DOWNLOAD, DOWNLOAD_MAX, SHORT_DOWNLOAD, DOWNLOAD_NEXT, MODIFY_BITS.)
abbrev pub PutBy : TransferValue → Command → Write → Type 0
PutBy t (commands.Download n bytes) x = (t.mta ≡ Memory x.address) × (x.bytes ≡ take n bytes.items)
PutBy t (commands.DownloadMax bytes) x = (t.mta ≡ Memory x.address) × (x.bytes ≡ take (t.pages.layout.max_cto - 1) bytes.items)
PutBy t (commands.ShortDownload n extension address bytes) x = (address ≡ x.address) × (x.bytes ≡ take n bytes.items)
PutBy t (commands.DownloadNext remaining bytes) x =
    (b : BlockValue) × (t.block ≡ Some b) × (b.address ≡ x.address) × (x.bytes ≡ b.bytes ++ take remaining bytes.items)
PutBy t (commands.ModifyBits s ma mx) x =
    (t.mta ≡ Memory x.address) × (read : List ℕ) × Reads Tool t.pages x.address 4 read
    × (x.bytes ≡ double_bytes t.pages.layout.order (modified s ma mx (double_at t.pages.layout.order 0 read)))
PutBy t _ x = ⊥

-- the request is a packet of such a command
abbrev pub IsPut : SlaveValue → Request → Write → Type 0
IsPut v (requests.Command packet) x = (c : Command) × spells (layout_of v).order c packet.items × PutBy v.transfer c x
IsPut v _ x = ⊥

-- w has the memory of v
abbrev pub IsStill : SlaveValue → SlaveValue → Type 0
IsStill v w = SameMemory v.transfer.pages w.transfer.pages

-- the step is one write, which its request puts, and which is told to be done
pub record IsWrite (v : SlaveValue) (q : Request) (a : Answer) (w : SlaveValue) (x : Write) : Type 0 where
  pub put : IsPut v q x
  pub writes : Writes v.transfer.pages x.address x.bytes w.transfer.pages
  pub told : a ≡ answers.Packets ((0xFF ∷ []) ∷ [])

-- the exchanges lead from v to w, and these are their writes, in order
abbrev pub Puts : SlaveValue → List Exchange → List Write → SlaveValue → Type 0
Puts v [] ws w = (ws ≡ []) × (w ≡ v)
Puts v (x ∷ xs) ws w =
    (mid : SlaveValue) × Answers v x.request x.answer mid
    × ((IsStill v mid × Puts mid xs ws w)
    ⊎ ((y : Write) × (rest : List Write) × (ws ≡ y ∷ rest) × IsWrite v x.request x.answer mid y × Puts mid xs rest w))

-- these writes, one after another, lead from p to q
abbrev pub WritesLeadTo : PagesValue → List Write → PagesValue → Type 0
WritesLeadTo p [] q = SameMemory p q
WritesLeadTo p (x ∷ xs) q = (mid : PagesValue) × (next : PagesValue) × SameMemory p mid × Writes mid x.address x.bytes next × WritesLeadTo next xs q

-- the byte that a write puts at an address, if it puts one there
abbrev pub byte_of : Write → ℕ → Option ℕ
byte_of x b = if nat_le x.address b && nat_lt b (x.address + length x.bytes) then Some (slice_index x.bytes (b - x.address)) else None

-- the last byte that these writes put at an address, if one does
abbrev pub last_at : List Write → ℕ → Option ℕ
last_at [] b = None
last_at (x ∷ xs) b = option_or (last_at xs b) (byte_of x b)

-- what the tool has at an address in q: this byte, or what stood there in p
abbrev pub IsLeft : Option ℕ → PagesValue → PagesValue → ℕ → Type 0
IsLeft (Some y) p q b = Tool q b y
IsLeft None p q b = (y : ℕ) → Tool p b y ↔ Tool q b y
