-- Laws of reads and writes: what the calls compute is what the sets of address and byte say.
use Rattle.std.specs.Prelude.{◌≡◌, ℕ, ◌<◌, true, ◌↔◌, List, length, Some, None}
use Rattle.xcp_packet.specs.declared.Code.TheVariants.{AccessDenied, WriteProtected}
use Rattle.xcp_memory.specs.Layout.{IsLayout}
use Rattle.xcp_memory.specs.Memory.{Tool, Controller, LiesInside, LiesProtected, Reads, Writes}
use Rattle.xcp_memory.specs.Pages.{PagesValue, IsPages}
use Rattle.xcp_memory.specs.ComputedAccess.{lies_inside, tool_bytes, controller_bytes, write_refusal, pages_written}

-- a read of the tool's bytes gives the list that is computed, and no other
abbrev pub ToolIsRead : Type 0
ToolIsRead = (v : PagesValue) (a n : ℕ) (bytes : List ℕ) → IsLayout v.layout → IsPages v → Reads Tool v a n bytes ↔ ((lies_inside v.layout a n ≡ true) × (bytes ≡ tool_bytes v a n))

-- the same of the controller's bytes
abbrev pub ControllerIsRead : Type 0
ControllerIsRead = (v : PagesValue) (a n : ℕ) (bytes : List ℕ) → IsLayout v.layout → IsPages v → Reads Controller v a n bytes ↔ ((lies_inside v.layout a n ≡ true) × (bytes ≡ controller_bytes v a n))

-- a write that isn't refused leads to the pages that are computed, and to no others
abbrev pub ToolIsWritten : Type 0
ToolIsWritten = (v w : PagesValue) (a : ℕ) (bytes : List ℕ) → IsLayout v.layout → IsPages v → write_refusal v a (length bytes) ≡ None → Writes v a bytes w ↔ (w ≡ pages_written v a bytes)

-- a write is denied (24) exactly where its range lies in no one area
abbrev pub OutsideIsDenied : Type 0
OutsideIsDenied = (v : PagesValue) (a n : ℕ) → (write_refusal v a n ≡ Some AccessDenied) ↔ (LiesInside v.layout a n → ⊥)

-- it is refused as protected (23) exactly where its range lies in one area, and that one may not be written
abbrev pub ProtectedIsRefused : Type 0
ProtectedIsRefused = (v : PagesValue) (a n : ℕ) → IsLayout v.layout → 0 < n → (write_refusal v a n ≡ Some WriteProtected) ↔ LiesProtected v a n
