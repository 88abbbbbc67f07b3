-- A front of a text, and what is left of it.
use Rattle.std.proofs.Common.{◌≡◌, ℕ, List, [], ◌++◌}
use Rattle.std.proofs.lemmas.List.{append-nil}
use mathlib.Core.List.{IsPrefix}

-- nothing is left to write after a text
pub none_more : (text texts : List ℕ) → texts ≡ [] → text ++ texts ≡ text
none_more text texts h = rw h (append-nil text)

-- a text is a front of itself
pub front_all : (text : List ℕ) → IsPrefix text text
front_all text = ([], append-nil text)
