-- Lines that begin with no word.
use Rattle.std.proofs.Common.{◌≡◌, ◌<◌, ◌≤◌, ℕ, Bool, true, false, MatchBool, List, [], ◌∷◌, length, slice_index, refl, arith}
use Rattle.std.specs.Prelude.{⊤, nat_le}
use Rattle.std.proofs.lemmas.Bool.Decides.{nat_tests}
use Rattle.xcp_script.specs.ScriptLine.{meaning, command_of, handed_or_command, is_skipped}

-- a line whose first character stands before the lower-case letters is a command, if it says anything
no_word : (max_cto b : ℕ) (bs : List ℕ) → b < 97 → is_skipped (b ∷ bs) ≡ false → length (b ∷ bs) ≤ 1024 → meaning max_cto (b ∷ bs) ≡ command_of max_cto (b ∷ bs)
unfolding meaning handed_or_command
no_word max_cto b bs h some short = grind (arith, nat_tests, h, some, short)

either : (t : Bool) (b : ℕ) (bs : List ℕ) → nat_le 97 b ≡ t → is_skipped (b ∷ bs) ≡ false → length (b ∷ bs) ≤ 1024
    → MatchBool t ⊤ ((max_cto : ℕ) → meaning max_cto (b ∷ bs) ≡ command_of max_cto (b ∷ bs))
either true b bs e some short = tt
either false b bs e some short =
    let h : b < 97 = grind (arith, nat_tests, e) in
    λ max_cto. no_word max_cto b bs h some short

-- whether a line's first character is a lower-case letter, or stands behind them: else the line is a command
pub may_begin : (line : List ℕ) → is_skipped line ≡ false → length line ≤ 1024
    → MatchBool (nat_le 97 (slice_index line 0)) ⊤ ((max_cto : ℕ) → meaning max_cto line ≡ command_of max_cto line)
may_begin [] some short = absurd (cc)
may_begin (b ∷ bs) some short = either (nat_le 97 b) b bs refl some short
