use Rattle.std.proofs.Common.{◌≡◌, ◌⊎◌, ℕ, ◌<◌, ◌≤◌, length, slice_index_or, true, false}
use Rattle.xcp_bank.proofs.marks.set_all.Given as goal

-- The marks from the first one on, before i, are set, and no others.
abbrev pub invariant-loop-i : goal.invariant-loop-i
invariant-loop-i l = (length l.marks ≡ length l.fn.marks)
    × ((l.i ≤ l.from) ⊎ (l.i ≤ l.to))
    × ((j : ℕ) → l.from ≤ j → j < l.i → slice_index_or l.marks j false ≡ true)
    × ((j : ℕ) → (j < l.from) ⊎ (l.i ≤ j) → slice_index_or l.marks j false ≡ slice_index_or l.fn.marks j false)
