-- The files of names, one by one.
use Rattle.std.proofs.Common.{◌≡◌, ℕ, List, [], ◌∷◌, ◌++◌, map, option_map, string_bytes, Option, Some, None, MatchOption, String, refl, sym, subst}
use Rattle.std.specs.Prelude.{⊤}
use Rattle.std.proofs.lemmas.List.{map_push}
use Rattle.xcp_config.specs.TableLayout.{File}
use Rattle.xcpd.specs.NamedFiles.{AreOf}

-- one name more, and its file
pub one_more : (names : List (Option (List ℕ))) (files : List File) (name : Option (List ℕ)) (file : File) → AreOf names files → MatchOption name (file ≡ None) (λ _. ⊤) → AreOf (names ++ name ∷ []) (files ++ file ∷ [])
one_more [] [] None file h k = (k, tt)
one_more [] [] (Some name) file h k = tt
one_more (None ∷ names) (f ∷ files) name file h k = (h.0, one_more names files name file h.1 k)
one_more (Some n ∷ names) (f ∷ files) name file h k = one_more names files name file h k
one_more [] (f ∷ files) name file h k = absurd h
one_more (None ∷ names) [] name file h k = absurd h
one_more (Some n ∷ names) [] name file h k = absurd h

-- the same of names as texts
pub one_named : {Z : Type 0} (names : List (Option (String Z))) (files : List File) (name : Option (String Z)) (file : File) → AreOf (map (option_map string_bytes) names) files → (name ≡ None → file ≡ None) → AreOf (map (option_map string_bytes) (names ++ name ∷ [])) (files ++ file ∷ [])
one_named names files None file h k =
    subst (λ ns. AreOf ns (files ++ file ∷ [])) (sym (map_push (option_map string_bytes) names None))
    (one_more (map (option_map string_bytes) names) files None file h (k refl))
one_named names files (Some name) file h k =
    subst (λ ns. AreOf ns (files ++ file ∷ [])) (sym (map_push (option_map string_bytes) names (Some name)))
    (one_more (map (option_map string_bytes) names) files (Some (string_bytes name)) file h tt)
