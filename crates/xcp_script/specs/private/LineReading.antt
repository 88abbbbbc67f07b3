-- The lines of a text as a reader meets them, byte by byte. The contracts of private functions
-- speak in these words; they say the same of a whole text as `Lines`, `asked` and `first_faulty`.
use Rattle.std.specs.Prelude.{◌≡◌, ◌<◌, ◌⊎◌, ℕ, ◌+◌, length, take, drop, List, [], ◌∷◌, ◌++◌, Option, Some, None, ◌==◌, if◌then◌else◌}
use Rattle.xcp_slave.specs.declared.Exchange.{Exchange}
use Rattle.xcp_slave.specs.declared.Request.{Request}
use mathlib.Core.List.{IsPrefix}
use Rattle.xcp_script.specs.Lines.{HasNoFeed, without_return, unless_empty}
use Rattle.xcp_script.specs.declared.liner.Lined.{Lined}
use Rattle.xcp_script.specs.declared.liner.Lined.TheVariants as lineds
use Rattle.xcp_script.specs.ScriptLine.{meaning}
use Rattle.xcp_script.specs.Replay.{is_faulty, asked_by, NotTaken}
use Rattle.xcp_script.specs.AnswerText.{answers_text}

-- the lines of a text of whose first line the bytes in begun have come already
abbrev pub lines_from : List ℕ → List ℕ → List (List ℕ)
lines_from begun [] = unless_empty begun
lines_from begun (b ∷ bs) =
    if b == 10 then without_return begun ∷ lines_from [] bs else lines_from (begun ++ b ∷ []) bs

-- the line whose last bytes these are, before its line feed
abbrev pub ended_line : List ℕ → List ℕ → List ℕ
ended_line begun last = without_return (begun ++ last)

-- the line that has ended, of which these bytes are held, or if none are, of which these are the last in the piece
abbrev pub whole_line : List ℕ → List ℕ → List ℕ
whole_line [] last = without_return last
whole_line (b ∷ held) last = without_return (b ∷ held)

-- a line that has begun with more than 1,025 bytes by somewhere in the piece
pub record IsTooLong (held piece : List ℕ) : Type 0 where
  pub last : List ℕ
  pub behind : List ℕ
  pub joined : piece ≡ last ++ behind
  pub no_feed : HasNoFeed last
  pub long : 1025 < length (held ++ last)

-- what a piece brings behind the bytes that are held: no line feed, the end of a line, or too much of one
abbrev pub LineCut : List ℕ → List ℕ → Lined → List ℕ → Type 0
LineCut held piece lineds.More left = HasNoFeed piece × (left ≡ held ++ piece)
LineCut held piece (lineds.Line end) left =
    HasNoFeed (take end piece) × (piece ≡ take end piece ++ 10 ∷ drop (end + 1) piece) × (end < length piece) × (whole_line left (take end piece) ≡ ended_line held (take end piece))
LineCut held piece lineds.TooLong left = IsTooLong held piece

-- the requests of the lines before the first faulty one
abbrev pub asked_before : ℕ → List (List ℕ) → List Request
asked_before max_cto [] = []
asked_before max_cto (l ∷ ls) =
    if is_faulty (meaning max_cto l) then [] else asked_by (meaning max_cto l) ++ asked_before max_cto ls

-- the number of the first faulty line, where n lines stand before these
abbrev pub faulty_from : ℕ → ℕ → List (List ℕ) → Option ℕ
faulty_from max_cto n [] = None
faulty_from max_cto n (l ∷ ls) =
    if is_faulty (meaning max_cto l) then Some (n + 1) else faulty_from max_cto (n + 1) ls

-- a fact about the lines as they are read from an input whose bytes are known
abbrev pub OfRead : Option (List ℕ) → (List (List ℕ) → Type 0) → Type 0
OfRead None Holds = Unit {0}
OfRead (Some input) Holds = Holds (lines_from [] input)

-- The answer to the last request has no text. What was a front of the text before these exchanges is one of the text of
-- the answers before it.
pub record LastUntold (old new : List Exchange) : Type 0 where
  pub earlier : List Exchange
  pub last : Exchange
  pub joined : new ≡ earlier ++ last ∷ []
  pub kept : (text : List ℕ) → IsPrefix text (answers_text old) → IsPrefix text (answers_text earlier)

-- where memory is short, in some lines of a script
abbrev pub ShortOf : List Request → List Exchange → List Exchange → Type 0
ShortOf asks old new = NotTaken asks new ⊎ LastUntold old new
