-- Lines of a piece, found by their line feeds.
use Rattle.std.proofs.Common.{◌≡◌, ◌≢◌, ◌==◌, ℕ, true, false, length, List, [], ◌∷◌, ◌++◌, refl, ◌+◌, take, drop, sym, ap, ◌∙◌, arith, append_assoc}
use Rattle.std.proofs.lemmas.Bool.Decides.{nat_tests}
use Rattle.std.proofs.lemmas.List.{append-nil}
use Rattle.std.proofs.lemmas.List.Elements.{All-head, All-tail}
use Rattle.xcp_script.specs.Lines.{HasNoFeed}
use Rattle.xcp_script.specs.declared.liner.Lined.TheVariants as lineds
use Rattle.xcp_script.specs.ScriptLine.{meaning}
use Rattle.xcp_script.specs.private.LineReading.{asked_before, ended_line, faulty_from, lines_from, whole_line, LineCut}
use Rattle.xcp_script.specs.Replay.{asked_by, is_faulty}
use Rattle.xcp_slave.specs.declared.Request.{Request}
use Rattle.xcp_script.proofs.LineReadingLaws.{line_read}

-- the bytes of a line and those behind it, in a piece
pub line_of_piece : (begun piece last behind rest : List ℕ) → HasNoFeed last → piece ≡ last ++ 10 ∷ behind
    → lines_from begun (piece ++ rest) ≡ ended_line begun last ∷ lines_from [] (behind ++ rest)
line_of_piece begun piece last behind rest h e =
    ap (λ (xs : List ℕ). lines_from begun (xs ++ rest)) e ∙ ap (λ (xs : List ℕ). lines_from begun xs) (append_assoc last (10 ∷ behind) rest) ∙ line_read begun last (behind ++ rest) h

-- bytes without a line feed end no line
pub none_ends : (begun bytes rest : List ℕ) → HasNoFeed bytes → lines_from begun (bytes ++ rest) ≡ lines_from (begun ++ bytes) rest
none_ends begun [] rest h = ap (λ (xs : List ℕ). lines_from xs rest) (sym (append-nil begun))
none_ends begun (b ∷ bytes) rest h =
    let other : (b == 10) ≡ false = grind (arith, nat_tests, All-head (λ x. x ≢ 10) b bytes h) in
    rw other (none_ends (begun ++ b ∷ []) bytes rest (All-tail (λ x. x ≢ 10) b bytes h) ∙ ap (λ (xs : List ℕ). lines_from xs rest) (append_assoc begun (b ∷ []) bytes))

-- the line that ends in a piece, and those behind it
pub line_cut : (end : ℕ) (begun piece held behind line rest : List ℕ) → LineCut begun piece (lineds.Line end) held → line ≡ whole_line held (take end piece) → behind ≡ drop (end + 1) piece
    → lines_from begun (piece ++ rest) ≡ line ∷ lines_from [] (behind ++ rest)
line_cut end begun piece held behind line rest c l d =
    line_of_piece begun piece (take end piece) (drop (end + 1) piece) rest c.0 c.1
    ∙ ap (λ (xs : List ℕ). xs ∷ lines_from [] (drop (end + 1) piece ++ rest)) (sym (l ∙ c.3))
    ∙ ap (λ (xs : List ℕ). line ∷ lines_from [] (xs ++ rest)) (sym d)

-- a line that was answered, before others
pub asked_more : (m : ℕ) (line : List ℕ) (later : List (List ℕ)) (old new : List Request) → is_faulty (meaning m line) ≡ false → new ≡ old ++ asked_by (meaning m line)
    → new ++ asked_before m later ≡ old ++ asked_before m (line ∷ later)
asked_more m line later old new f e =
    let asks : asked_before m (line ∷ later) ≡ asked_by (meaning m line) ++ asked_before m later = rw f refl in
    ap (λ (qs : List Request). qs ++ asked_before m later) e ∙ append_assoc old (asked_by (meaning m line)) (asked_before m later) ∙ ap (λ (qs : List Request). old ++ qs) (sym asks)

-- the first faulty line has the same number where a line before it that isn't faulty is counted already
pub fault_more : (m n : ℕ) (line : List ℕ) (later : List (List ℕ)) → is_faulty (meaning m line) ≡ false → faulty_from m (n + 1) later ≡ faulty_from m n (line ∷ later)
fault_more m n line later f = rw f refl

-- a line that lies in one piece
pub lies_in_piece : (held last : List ℕ) → true ≡ (length held == 0) → whole_line held last ≡ ended_line held last
lies_in_piece [] last h = refl
lies_in_piece (b ∷ held) last h = grind (arith, nat_tests)

-- a line that began in an earlier one
pub began_before : (held last : List ℕ) → false ≡ (length held == 0) → whole_line (held ++ last) last ≡ ended_line held last
began_before [] last h = absurd (cc)
began_before (b ∷ held) last h = refl
