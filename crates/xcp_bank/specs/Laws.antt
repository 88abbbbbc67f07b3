-- What the rule alone says of a step, whatever body makes it and whatever it leaves in words and view; and what a Scan tells.
use Rattle.std.specs.Prelude.{◌≡◌, ◌≢◌, ℕ, suc, ◌+◌, ◌<◌, ◌≤◌, List, [], ◌∷◌, ◌++◌, slice_set, Some}
use mathlib.Core.Option.{some}
use lib.ListN.{get_elem?}
use Rattle.atomic_table.specs.Table.{State}
use Rattle.pin_core.specs.State.{PinState, started_of}
use Rattle.pin_core.specs.StateInvariant.{holders}
use Rattle.xcp_bank.specs.PinHistory.{Deed, Ran, Does, EndsInDeed, looked_at, has_scanned}
use Rattle.xcp_bank.specs.SeatKnowledge.{Reading, Writing, Known, one_reader}
use Rattle.xcp_bank.specs.TableRule.{Banked}

-- the table after a step of the seat `id`, which leaves these words and this view
abbrev pub stepped : State (Unit {0}) Known → ℕ → List ℕ → Known → State (Unit {0}) Known
stepped t id words v = record { words = words; homes = t.homes; views = slice_set t.views id v }

-- A Look can't be noted that didn't look. Where a step of a reader that was told nothing since its last one leaves a Look as its only
-- new deed, and that is the last of its history, the answer noted is the buffer that is current: the one that the writer knows.
abbrev pub NotedLooksLook : Type 0
NotedLooksLook = (W : ℕ) (t : State (Unit {0}) Known) → Banked W t
    → (id r : ℕ) (x : Reading) → get_elem? t.views id ≡ some (one_reader r x) → x.pending ≡ []
    → (j : ℕ) (v : Known) (w : Writing) → j ≢ id → get_elem? t.views j ≡ some v → v.writer ≡ Some w
    → (words : List ℕ) (y : Reading) (i : ℕ) → Banked W (stepped t id words (one_reader r y))
    → Does (suc r) x.history x.pending y.history y.pending (looked_at r i ∷ []) → y.pending ≡ [] → EndsInDeed y.history (looked_at r i)
    → i ≡ w.current

-- A Scan tells who holds its buffer. Where it is the last deed of a history, as many pins of that buffer were started as it told were
-- given back, and one more for each reader that holds the buffer then: so it is quiet exactly where nobody holds it.
abbrev pub ScansTellHolders : Type 0
ScansTellHolders = (W : ℕ) → 0 < W → W ≤ 131073 → (before : List Deed) (b n : ℕ) (s : PinState) → Ran W (before ++ has_scanned b n ∷ []) s
    → (b ≢ s.index) × (started_of s b ≡ n + holders b s.readers)
