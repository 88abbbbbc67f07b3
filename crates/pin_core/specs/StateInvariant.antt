-- What holds of every state that the events reach: the sizes, and seven clauses.
use Rattle.std.specs.Prelude.{◌≡◌, ◌≢◌, ℕ, ◌+◌, ◌-◌, ◌<◌, ◌≤◌, true, ◌==◌, if◌then◌else◌, List, length, take, sum_by, Option, Some, None}
use Rattle.pin_core.specs.State.{Reader, PinState, reader, words_of_buffer, leavings_of, started_of, published, publication_at}

-- 1 where this is held and is buffer b
abbrev pub at_buffer : ℕ → Option (ℕ × ℕ) → ℕ
at_buffer b None = 0
at_buffer b (Some h) = if h.0 == b then 1 else 0

-- how many readers hold buffer b
abbrev pub holders : ℕ → List Reader → ℕ
holders b rs = sum_by (λ x. at_buffer b x.held) rs

abbrev pub left_for_good : Reader → ℕ
left_for_good x = if x.gone then 1 else 0

-- how many readers are gone
abbrev pub departed : List Reader → ℕ
departed rs = sum_by left_for_good rs

-- Eight buffers of W words, 1 to 131,073 (an image of 1 MiB and a number), with their counters, and six readers.
pub record Sizes (W : ℕ) (s : PinState) : Type 0 where
  pub some_words : 0 < W
  pub few_words : W ≤ 131073
  pub buffers : length s.words ≡ 8
  pub counters : length s.leavings ≡ 8
  pub starts : length s.writer.started ≡ 8
  pub seats : length s.readers ≡ 6
  pub widths : (b : ℕ) → b < 8 → length (words_of_buffer s b) ≡ W
  pub index : s.index < 8

-- The current buffer's words are the last publication.
pub record ShowsTheLast (s : PinState) : Type 0 where
  pub some : 0 < published s
  pub words : words_of_buffer s s.index ≡ publication_at s (published s - 1)

-- A held buffer's words are its holder's publication, whose number is the last one exactly where that buffer is current.
-- The buffer is neither being built nor quiet.
pub record KeepsItsPublication (s : PinState) (b p : ℕ) : Type 0 where
  pub buffer : b < 8
  pub words : words_of_buffer s b ≡ publication_at s p
  pub newest : p + 1 ≡ published s → b ≡ s.index
  pub current : b ≡ s.index → p + 1 ≡ published s
  pub unbuilt : s.writer.building ≢ Some b
  pub unquiet : s.writer.quiet ≢ Some b

-- The count is the holders of the current buffer and its leavings; these leavings are at most the readers that are gone;
-- so the count is at most six.
pub record CountsTheCurrent (s : PinState) : Type 0 where
  pub exact : s.count ≡ holders s.index s.readers + leavings_of s s.index
  pub left : leavings_of s s.index ≤ departed s.readers
  pub few : s.count ≤ 6

-- Of a buffer that is not current, started less its leavings is the number of its holders, and started is at most six.
pub record CountsAnOther (s : PinState) (b : ℕ) : Type 0 where
  pub exact : started_of s b ≡ leavings_of s b + holders b s.readers
  pub few : started_of s b ≤ 6

-- The buffer b is being built: it is not current, has started and leavings 0, and begins with the words written so far.
pub record IsBuilt (W : ℕ) (s : PinState) (b : ℕ) : Type 0 where
  pub buffer : b < 8
  pub apart : b ≢ s.index
  pub fresh : started_of s b ≡ 0
  pub clean : leavings_of s b ≡ 0
  pub room : length s.writer.written ≤ W
  pub front : take (length s.writer.written) (words_of_buffer s b) ≡ s.writer.written

-- The buffer being built and the quiet one are not current; the one being built is as said above.
pub record BuildsApart (W : ℕ) (s : PinState) : Type 0 where
  pub building : (b : ℕ) → s.writer.building ≡ Some b → IsBuilt W s b
  pub quiet : (b : ℕ) → s.writer.quiet ≡ Some b → (b < 8) × (b ≢ s.index)

-- Where a reader's last Look saw another buffer than the one it holds, the held one is not current. Who is gone holds nothing.
pub record KnowsItsPlace (index : ℕ) (x : Reader) : Type 0 where
  pub overtaken : (b p : ℕ) → x.held ≡ Some (b, p) → x.looked ≢ b → b ≢ index
  pub away : x.gone ≡ true → x.held ≡ None

-- What a reader has seen is one publication at least and no more than there are; the number of the one it holds is below.
pub record HasSeen (published : ℕ) (x : Reader) : Type 0 where
  pub some : 0 < x.seen
  pub most : x.seen ≤ published
  pub held : (b p : ℕ) → x.held ≡ Some (b, p) → p < x.seen

pub record Lawful (W : ℕ) (s : PinState) : Type 0 where
  pub sizes : Sizes W s
  pub latest : ShowsTheLast s
  pub keeps : (r b p : ℕ) → (reader s r).held ≡ Some (b, p) → KeepsItsPublication s b p
  pub counted : CountsTheCurrent s
  pub others : (b : ℕ) → b < 8 → b ≢ s.index → CountsAnOther s b
  pub builds : BuildsApart W s
  pub places : (r : ℕ) → KnowsItsPlace s.index (reader s r)
  pub seen : (r : ℕ) → HasSeen (published s) (reader s r)

-- A buffer that a writer could take: not the current one, and nobody holds it.
abbrev pub IsIdle : PinState → ℕ → Type 0
IsIdle s b = (b < 8) × (b ≢ s.index) × (holders b s.readers ≡ 0)
