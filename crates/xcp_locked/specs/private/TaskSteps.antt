-- What a cycle adds, and what it cuts.
use Rattle.std.specs.Prelude.{◌≡◌, ◌<◌, ◌≤◌, ℕ, List, ◌++◌, Option, Some, None, length}
use Rattle.xcp_slave.specs.declared.Request.{Request}
use Rattle.xcp_locked.specs.declared.receipt.Receipt.{Receipt}
use Rattle.xcp_locked.specs.Journal.{last_chapter}
use Rattle.xcp_locked.specs.LockedSlave.{ChapterValue, LockedValue, chapter_of, cut_off}
use Rattle.xcp_locked.specs.Tasks.{receipt_requests}

-- the receipts grew by those of these requests
abbrev pub Adds : List Request → List Receipt → List Receipt → Type 0
Adds requests old new = (more : List Receipt) × (receipt_requests more ≡ requests) × (new ≡ old ++ more)

-- the open chapter has so many calls, and is not the last that there can be
abbrev pub IsChapterFull : ℕ → LockedValue → Type 0
IsChapterFull chapter l = (chapter ≤ length l.journal) × (l.chapter < last_chapter)

-- A full chapter was cut off; of one that is not full nothing was done.
abbrev pub CutsFull : ℕ → LockedValue → LockedValue → Option ChapterValue → Type 0
CutsFull chapter old new None = ¬ (IsChapterFull chapter old) × (new ≡ old)
CutsFull chapter old new (Some cut) = IsChapterFull chapter old × (new ≡ cut_off old) × (cut ≡ chapter_of old)
