-- Lines that are faulty for their length, and the last line of a text.
use Rattle.std.proofs.Common.{◌≡◌, ◌<◌, ◌≤◌, ◌+◌, ◌==◌, ℕ, true, false, List, [], ◌∷◌, ◌++◌, length, nat_lt, if◌then◌else◌, Some, refl, sym, ap, subst, ◌∙◌, arith, append_assoc, length-append, length-take}
use Rattle.std.proofs.lemmas.Bool.Decides.{nat_tests}
use Rattle.std.proofs.lemmas.List.{append-nil}
use Rattle.xcp_slave.specs.declared.Request.{Request}
use Rattle.xcp_script.specs.declared.line.Line.TheVariants.{Faulty}
use Rattle.xcp_script.specs.Lines.{HasNoFeed, unless_empty, without_return}
use Rattle.xcp_script.specs.ScriptLine.{meaning}
use Rattle.xcp_script.specs.private.LineReading.{asked_before, faulty_from, lines_from, IsTooLong}
use Rattle.xcp_script.specs.Replay.{is_faulty}
use Rattle.xcp_script.proofs.LineFeedLemmas.{none_ends}

-- a last line that is not empty
pub last_is_one : (xs : List ℕ) → false ≡ (length xs == 0) → unless_empty xs ≡ xs ∷ []
last_is_one [] h = absurd (cc)
last_is_one (x ∷ xs) h = refl

-- a line of more than 1,024 bytes
long_is_faulty : (m : ℕ) (line : List ℕ) → 1024 < length line → meaning m line ≡ Faulty
unfolding meaning
long_is_faulty m line h =
    let long : nat_lt 1024 (length line) ≡ true = grind (arith, nat_tests) in
    rw long refl

length_without_return : (line : List ℕ) → length line ≤ length (without_return line) + 1
unfolding without_return
length_without_return line = grind (arith, nat_tests, length-take)

-- nothing is asked, as the first of the lines is faulty
pub record Stops (m n : ℕ) (lines : List (List ℕ)) : Type 0 where
  pub asked : asked_before m lines ≡ []
  pub fault : faulty_from m n lines ≡ Some (n + 1)

long_stops : (m n : ℕ) (line : List ℕ) (lines : List (List ℕ)) → 1024 < length line → Stops m n (line ∷ lines)
long_stops m n line lines h = record { asked = rw (long_is_faulty m line h) refl; fault = rw (long_is_faulty m line h) refl }

-- a line that has begun with more than 1,025 bytes is faulty, whatever follows
begun_stops : (m n : ℕ) (begun bs : List ℕ) → 1025 < length begun → Stops m n (lines_from begun bs)
begun_stops m n begun [] h = rw (last_is_one begun (grind (arith, nat_tests))) (long_stops m n begun [] (omega (arith, h)))
begun_stops m n begun (b ∷ bs) h =
    elim (b == 10) as (λ t. Stops m n (if t then without_return begun ∷ lines_from [] bs else lines_from (begun ++ b ∷ []) bs)) [
      | true ↦ long_stops m n (without_return begun) (lines_from [] bs) (omega (arith, h, length_without_return begun))
      | false ↦ begun_stops m n (begun ++ b ∷ []) bs (omega (arith, h, length-append begun (b ∷ [])))
    ]

-- a line that has begun with more than 1,025 bytes, the last of a piece
piece_stops : (m n : ℕ) (begun piece rest : List ℕ) → HasNoFeed piece → 1025 < length (begun ++ piece) → Stops m n (lines_from begun (piece ++ rest))
piece_stops m n begun piece rest h k = subst (λ (ls : List (List ℕ)). Stops m n ls) (sym (none_ends begun piece rest h)) (begun_stops m n (begun ++ piece) rest k)

-- where a line gets more than 1,025 bytes within a piece, nothing is asked, and it is the first faulty one
pub too_long_stops : (m n : ℕ) (begun piece rest : List ℕ) → IsTooLong begun piece → Stops m n (lines_from begun (piece ++ rest))
too_long_stops m n begun piece rest t =
    let parts : lines_from begun (piece ++ rest) ≡ lines_from begun (t.last ++ (t.behind ++ rest)) =
    ap (λ (xs : List ℕ). lines_from begun (xs ++ rest)) t.joined ∙ ap (λ (xs : List ℕ). lines_from begun xs) (append_assoc t.last t.behind rest) in
    subst (λ (ls : List (List ℕ)). Stops m n ls) (sym parts) (piece_stops m n begun t.last (t.behind ++ rest) t.no_feed t.long)

-- a faulty line, and others behind it
pub faulty_stops : (m n : ℕ) (line : List ℕ) (lines : List (List ℕ)) → is_faulty (meaning m line) ≡ true → Stops m n (line ∷ lines)
faulty_stops m n line lines f = record { asked = rw f refl; fault = rw f refl }

-- what is known at a faulty line, of which n lines come before
pub stopped : (m n n' : ℕ) (lines : List (List ℕ)) (requests : List Request) → Stops m n lines → n' ≡ n
    → (requests ≡ requests ++ asked_before m lines) × (faulty_from m n lines ≡ Some (n' + 1))
stopped m n n' lines requests h k = (rw h.asked (sym (append-nil requests)), rw k h.fault)

-- nothing stands behind the last line feed
pub last_is_none : (xs : List ℕ) → true ≡ (length xs == 0) → unless_empty xs ≡ []
last_is_none [] h = refl
last_is_none (x ∷ xs) h = grind (arith, nat_tests)
