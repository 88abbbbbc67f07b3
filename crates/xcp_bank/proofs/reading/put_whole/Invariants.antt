use Rattle.std.proofs.Common.{◌≡◌, ℕ, ◌+◌, ◌-◌, ◌<◌, ◌≤◌, length, slice_index}
use Rattle.xcp_bank.proofs.reading.put_whole.Given as goal

-- The first i bytes of the word are put, and no others.
abbrev pub invariant-loop-i : goal.invariant-loop-i
invariant-loop-i l = (length l.out ≡ length l.fn.out)
    × ((j : ℕ) → l.from ≤ j → j < l.from + l.i → slice_index l.out j ≡ slice_index l.bytes (j - l.from))
    × ((j : ℕ) → j < l.from → slice_index l.out j ≡ slice_index l.fn.out j)
    × ((j : ℕ) → l.from + l.i ≤ j → slice_index l.out j ≡ slice_index l.fn.out j)
