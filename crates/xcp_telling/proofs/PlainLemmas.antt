-- The second of some words.
use Rattle.std.proofs.Common.{◌≡◌, ℕ, ◌≤◌, Bool, List, [], ◌∷◌, codes, length, map, ap, subst, sym, refl, true, false, arith}
use Rattle.std.proofs.lemmas.Bool.{false≢true}
use Rattle.std.proofs.Common.{slice_index_or as get_or}
use Rattle.std.specs.Bool.{Decides, MatchBool}
use Rattle.std.specs.List.{remove}
use Rattle.xcp_telling.specs.PlainWords.{AsksPlainly, IsPlainAsked}

-- if it asks for faults without words, it can be taken away
pub second_is_taken : {X : Type 0} (f : X → List ℕ) (xs : List X) → AsksPlainly (map f xs) → IsPlainAsked (map f xs) (map f (remove xs 1))
second_is_taken f [] asks = elim asks [ ]
second_is_taken f (name ∷ []) asks = elim asks [ ]
second_is_taken f (name ∷ plain ∷ rest) asks = (f name, map f rest, ap (λ w. f name ∷ w ∷ map f rest) asks, refl)

-- what is said of it is said of them all
pub second_is_judged : {X : Type 0} (f : X → List ℕ) (xs : List X) (word : X) (asks : Bool) → 2 ≤ length xs → word ≡ get_or xs 1 word → Decides asks (f word ≡ codes "--plain")
    → MatchBool asks (AsksPlainly (map f xs)) (¬ (AsksPlainly (map f xs)))
second_is_judged f [] word asks long same judged = absurd (omega arith)
second_is_judged f (name ∷ []) word asks long same judged = absurd (omega arith)
second_is_judged f (name ∷ second ∷ rest) word true long same judged = subst (λ w. f w ≡ codes "--plain") same (judged.0 refl)
second_is_judged f (name ∷ second ∷ rest) word false long same judged = λ asks. absurd (false≢true (judged.1 (subst (λ w. f w ≡ codes "--plain") (sym same) asks)))
