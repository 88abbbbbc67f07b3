-- The pages of one segment, as they are written.
use Rattle.std.proofs.Common.{◌≡◌, ℕ, ◌+◌, ◌≤◌, List, ◌++◌, length, take, drop, arith, length-append, length-drop}
use Rattle.std.proofs.lemmas.List.{length-take}
use Rattle.std.proofs.lemmas.Grind.{common_steps}
use Rattle.xcp_memory.specs.ComputedAccess.{overwritten}

-- a list that is overwritten within its length keeps its length
pub length-overwritten : (xs ys : List ℕ) (i : ℕ) → i + length ys ≤ length xs → length (overwritten xs i ys) ≡ length xs
length-overwritten xs ys i h = simp (length-append, length-take, length-drop) (omega arith)

-- a list that is filled anew from its start with as many elements is these elements
pub refilled : {X : Type 0} (n : ℕ) (new xs : List X) → n ≡ length xs → length new ≡ length xs → take n (new ++ drop (length new) xs) ≡ new
refilled {X} n new xs e h = grind (arith, common_steps)

-- bytes over all of those that were there
pub all_over : (xs ys : List ℕ) → length ys ≡ length xs → overwritten xs 0 ys ≡ ys
all_over xs ys h = grind (arith, common_steps)
