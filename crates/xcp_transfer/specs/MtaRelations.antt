-- What it is to read and to write at a memory transfer address (MTA), by addresses and bytes.
use Rattle.std.specs.Prelude.{◌≡◌, ℕ, ◌+◌, ◌<◌, ◌≤◌, List, length, slice_index}
use Rattle.xcp_memory.specs.Memory.{Tool, Reads, Writes}
use Rattle.xcp_memory.specs.Pages.{PagesValue}
use Rattle.xcp_transfer.specs.declared.mta.Mta.{Mta}
use Rattle.xcp_transfer.specs.declared.mta.Mta.TheVariants.{Nowhere, Memory, Text}
use Rattle.xcp_transfer.specs.TransferValue.{text_of}

-- A read of n bytes of a text from a place on gives the list whose k-th byte stands k places behind it.
pub record ReadsText (text : List ℕ) (place n : ℕ) (bytes : List ℕ) : Type 0 where
  pub inside : place + n ≤ length text
  pub long : length bytes ≡ n
  pub each : (k : ℕ) → k < n → slice_index bytes k ≡ slice_index text (place + k)

-- A read of n bytes at an MTA gives this list: the tool's bytes at an address, a text's at its place; nowhere none.
-- (ASAM MCD-1 XCP, protocol layer, description of commands: UPLOAD.)
abbrev pub ReadsAt : PagesValue → Mta → ℕ → List ℕ → Type 0
ReadsAt p Nowhere n bytes = ⊥
ReadsAt p (Memory a) n bytes = Reads Tool p a n bytes
ReadsAt p (Text id place) n bytes = ReadsText (text_of p.layout id) place n bytes

-- A write of a list at an MTA leads to q: only addresses are written.
-- (ASAM MCD-1 XCP, protocol layer, description of commands: DOWNLOAD.)
abbrev pub WritesAt : PagesValue → Mta → List ℕ → PagesValue → Type 0
WritesAt p Nowhere bytes q = ⊥
WritesAt p (Memory a) bytes q = Writes p a bytes q
WritesAt p (Text id place) bytes q = ⊥
