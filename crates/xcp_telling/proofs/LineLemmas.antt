-- The first and the last of some lines.
use Rattle.std.proofs.Common.{◌≡◌, ℕ, List, [], ◌∷◌, ◌++◌, codes, take, drop, inl, inr, sym, refl, arith}
use Rattle.std.specs.Str.Pattern.{RFindsChar, SplitsAroundMatch}
use Rattle.std.proofs.lemmas.Str.Pattern.{drop_at_char}
use Rattle.std.proofs.lemmas.List.{take-append-drop}
use Rattle.xcp_telling.specs.Locating.{IsFirstLine, IsLastLine}

-- what stands before a line feed is the first line, where it is the head with a colon and the words behind it
pub is_first : (head front lines line more words : List ℕ) → lines ≡ line ++ (10 ∷ more) → line ≡ front ++ (codes ": " ++ words) → front ≡ head → IsFirstLine head lines words
is_first head front lines line more words cut parted same = (line, more, cut, rw (← same) parted)

-- the only line
pub is_only : (lines text : List ℕ) → lines ≡ text ++ (10 ∷ []) → IsLastLine lines text
is_only lines text ended = (text, ended, inl refl)

-- what stands behind the last line feed but one
pub is_last : (lines text before words : List ℕ) → lines ≡ text ++ (10 ∷ []) → SplitsAroundMatch (RFindsChar 10) text before words → IsLastLine lines words
is_last lines text before words ended (i, j, (none, at), front, behind, ordered, front_fits, back_fits) =
    let whole : text ≡ take i text ++ 10 ∷ drop j text = rw (← drop_at_char 10 text i j at (omega arith)) (sym (take-append-drop i text)) in
    (text, ended, inr (before, rw (front, behind) whole))
