use Rattle.std.proofs.Common.{◌≡◌, ℕ, ◌<◌, ◌≤◌, true}
use Rattle.xcp_bank.specs.private.BlockMarks.{mark_of, TakenAway}
use Rattle.xcp_bank.proofs.marks.Marks.take_row.Given as goal

-- The marks from the first one on, before this one, were there and are taken away.
abbrev pub invariant-loop-block : goal.invariant-loop-block
invariant-loop-block l = TakenAway l.buffer l.from l.block l.fn.self l.self-inside.marks.items × ((q : ℕ) → l.from ≤ q → q < l.block → mark_of l.fn.self q l.buffer ≡ true)
