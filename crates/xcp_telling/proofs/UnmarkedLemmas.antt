-- Lines without a colon stay as they are.
use Rattle.std.proofs.Common.{◌≡◌, ℕ, Bool, true, not, List, [], ◌∷◌, ◌++◌, codes, flat_map, ap, sym, refl, ◌∙◌, inl, inr, ◌==◌}
use Rattle.std.specs.List.{list_all, AllZip}
use Rattle.std.proofs.lemmas.List.Folds.{list_all-append}
use Rattle.std.proofs.lemmas.Bool.{and_parts, false≢true}
use Rattle.xcp_telling.specs.Locating.{AreLocated, IsLocated, ended_lines}

-- without a colon
abbrev pub is_unmarked : List ℕ → Bool
is_unmarked text = list_all (λ c. not (c == 58)) text

-- both parts of such a text are such
parts : (a b : List ℕ) → is_unmarked (a ++ b) ≡ true → (is_unmarked a ≡ true) × (is_unmarked b ≡ true)
parts a b u = and_parts _ _ (sym (list_all-append (λ c. not (c == 58)) a b) ∙ u)

line_stays : (words told : List ℕ) → is_unmarked words ≡ true → IsLocated words told → told ≡ words
line_stays words told u (inl same) = same
line_stays words told u (inr (front, place, rest, is, parted, put)) =
    absurd (false≢true (parts front (codes ": " ++ rest) (ap is_unmarked (sym parted) ∙ u)).1)

all_stay : (lines others : List (List ℕ)) → is_unmarked (flat_map ended_lines lines) ≡ true → AllZip IsLocated lines others → flat_map ended_lines others ≡ flat_map ended_lines lines
all_stay [] [] u each = refl
all_stay [] (told ∷ others) u each = absurd each
all_stay (line ∷ lines) [] u each = absurd each
all_stay (line ∷ lines) (told ∷ others) u (is, each) =
    let first = parts (ended_lines line) (flat_map ended_lines lines) u in
    let words = parts line (10 ∷ []) first.0 in
    ap (λ ws. ended_lines ws ++ flat_map ended_lines others) (line_stays line told words.0 is) ∙ ap (λ ws. ended_lines line ++ ws) (all_stay lines others first.1 each)

-- a text without a colon is told as it is
pub text_stays : (text told : List ℕ) → is_unmarked text ≡ true → AreLocated text told → told ≡ text
text_stays text told u h =
    let lines = parts (flat_map ended_lines h.lines) h.rest (ap is_unmarked (sym h.cut) ∙ u) in
    h.joined ∙ ap (λ ws. ws ++ h.rest) (all_stay h.lines h.others lines.0 h.each) ∙ sym h.cut
