-- A block as its packets come.
use Rattle.std.specs.Prelude.{◌≡◌, ℕ, ◌-◌, ◌⊎◌, true, List, [], ◌∷◌, ◌++◌, take}
use Rattle.arrayvec.specs.ArrayVec.{ArrayVec}
use Rattle.xcp_packet.specs.CommandSpelling.{spells}
use Rattle.xcp_packet.specs.declared.Command.TheVariants as commands
use Rattle.xcp_transfer.specs.declared.Mta.TheVariants.{Memory}
use Rattle.xcp_slave.specs.Outcomes.{Answer}
use Rattle.xcp_slave.specs.declared.outcome.Outcome.TheVariants as answers
use Rattle.xcp_slave.specs.declared.exchange.Exchange.{Exchange}
use Rattle.xcp_slave.specs.declared.request.Request.{Request}
use Rattle.xcp_slave.specs.declared.request.Request.TheVariants as requests
use Rattle.xcp_slave.specs.SlaveValue.{SlaveValue, layout_of}
use Rattle.xcp_slave.specs.Step.{Answers}

-- what comes between the packets of a block and is none of them: events, drains, stores, and packets of no bytes
abbrev pub IsBetween : Request → Type 0
IsBetween (requests.Command packet) = packet.items ≡ []
IsBetween requests.Hangup = ⊥
IsBetween _ = Unit {0}

-- The request is a packet of DOWNLOAD_NEXT that isn't the last: nothing is sent, and it brings MAX_CTO - 2 bytes.
-- (ASAM MCD-1 XCP, protocol layer: master block transfer mode; description of commands: DOWNLOAD_NEXT.)
pub record Brings (v : SlaveValue) (q : Request) (a : Answer) (bytes : List ℕ) : Type 0 where
  pub packet : ArrayVec ℕ
  pub remaining : ℕ
  pub items : ArrayVec ℕ
  pub asked : q ≡ requests.Command packet
  pub spelt : spells (layout_of v).order (commands.DownloadNext remaining items) packet.items
  pub unsaid : a ≡ answers.Silent
  pub brought : bytes ≡ take ((layout_of v).max_cto - 2) items.items

-- the exchanges lead from v to w, and these are the bytes that they bring to the block under way, in order
abbrev pub GathersBlock : SlaveValue → List Exchange → List ℕ → SlaveValue → Type 0
GathersBlock v [] bytes w = (bytes ≡ []) × (w ≡ v)
GathersBlock v (x ∷ xs) bytes w =
    (mid : SlaveValue) × Answers v x.request x.answer mid
    × ((IsBetween x.request × GathersBlock mid xs bytes w)
    ⊎ ((part : List ℕ) × (rest : List ℕ) × Brings v x.request x.answer part × (bytes ≡ part ++ rest)
    × GathersBlock mid xs rest w))

-- A DOWNLOAD of n bytes to the address a begins a block at v, and the exchanges go on with it and lead to u: these
-- bytes have come so far.
-- (ASAM MCD-1 XCP, protocol layer: master block transfer mode; description of commands: DOWNLOAD.)
pub record Comes (v : SlaveValue) (n a : ℕ) (xs : List Exchange) (came : List ℕ) (u : SlaveValue) : Type 0 where
  pub connected : v.connected ≡ true
  pub mta : v.transfer.mta ≡ Memory a
  pub packet : ArrayVec ℕ
  pub items : ArrayVec ℕ
  pub spelt : spells (layout_of v).order (commands.Download n items) packet.items
  pub begun : SlaveValue
  pub unsaid : Answers v (requests.Command packet) answers.Silent begun
  pub others : List ℕ
  pub gathered : GathersBlock begun xs others u
  pub all : came ≡ take ((layout_of v).max_cto - 2) items.items ++ others
