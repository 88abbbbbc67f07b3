-- What stands before the last slash of a name, and behind it.
use Rattle.std.proofs.Common.{◌≡◌, ℕ, List, ◌∷◌, ◌++◌, take, drop, inr, sym, refl, arith}
use Rattle.std.specs.Str.Pattern.{RFindsChar, SplitsAroundMatch}
use Rattle.std.proofs.lemmas.Str.Pattern.{drop_at_char}
use Rattle.std.proofs.lemmas.List.{take-append-drop}
use Rattle.xcp_program.specs.StoredPages.{IsFolderOf, folder_before}

-- a name that is split at its last slash lies in the folder that it has before
pub folder_of_split : (path front back : List ℕ) → SplitsAroundMatch (RFindsChar 47) path front back → IsFolderOf path (folder_before front)
folder_of_split path front back (i, j, (none, at), before, behind, ordered, front_fits, back_fits) =
    let whole : path ≡ take i path ++ 47 ∷ drop j path = rw (← drop_at_char 47 path i j at (omega arith)) (sym (take-append-drop i path)) in
    inr (front, back, rw (before, behind) whole, rw behind none, refl)
