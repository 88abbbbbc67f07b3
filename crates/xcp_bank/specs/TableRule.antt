-- The bank's rule, for buffers of W words: the words of the table and what its seats know show a lawful state of the pin core.
use Rattle.std.specs.Prelude.{◌≡◌, ◌≢◌, ℕ, suc, ◌+◌, ◌-◌, ◌*◌, ◌%◌, ◌<◌, List, [], ◌∷◌, length, take, slice_index, Some}
use mathlib.Core.Option.{some}
use lib.ListN.{get_elem?}
use Rattle.atomic_table.specs.Table.{State}
use Rattle.pin_core.specs.Steps.{Runs}
use Rattle.pin_core.specs.State.{PinState, reader, words_of_buffer, leavings_of, published, publication_at, opening}
use Rattle.pin_core.specs.CurrentWord.{head_of}
use Rattle.pin_core.specs.StateInvariant.{Lawful, holders}
use Rattle.xcp_bank.specs.PinHistory.{Deed, deed_events, answers_of, Grows}
use mathlib.Core.List.{IsPrefix}
use Rattle.xcp_bank.specs.SeatKnowledge.{AllBegin, Reading, Writing, Known}

-- Word 0 is the current buffer and its pins, words 1 to 8 are the leavings, and buffer b begins at word 9 + b * W.
pub record Shows (W : ℕ) (ws : List ℕ) (s : PinState) : Type 0 where
  pub size : length ws ≡ 9 + 8 * W
  pub head : slice_index ws 0 ≡ head_of s.index s.count
  pub left : (b : ℕ) → b < 8 → slice_index ws (1 + b) ≡ leavings_of s b
  pub image : (b k : ℕ) → b < 8 → k < W → slice_index ws (9 + (b * W + k)) ≡ slice_index (words_of_buffer s b) k

-- The publication p has W words, and the last is its number modulo 2^64.
pub record IsNumbered (W p : ℕ) (words : List ℕ) : Type 0 where
  pub size : length words ≡ W
  pub number : slice_index words (W - 1) ≡ p % 18446744073709551616

-- The seat `id` stands for the reader r, which is as x says.
pub record StandsFor (s : PinState) (own : ℕ → ℕ) (id r : ℕ) (x : Reading) : Type 0 where
  pub inside : r < 6
  pub mine : own r ≡ id
  pub pins : reader s r ≡ x.pins
  pub list : x.list ≡ take x.pins.seen s.writer.publications
  pub past : AllBegin x.past x.list

abbrev pub StandsForAll : PinState → (ℕ → ℕ) → ℕ → List (ℕ × Reading) → Type 0
StandsForAll s own id [] = Unit {0}
StandsForAll s own id (y ∷ ys) = StandsFor s own id y.0 y.1 × StandsForAll s own id ys

-- The writer is as w says, the buffers have the words that it knows, and the idle buffer is not current and has no holder.
pub record Leads (s : PinState) (w : Writing) : Type 0 where
  pub pins : s.writer ≡ w.pins
  pub current : s.index ≡ w.current
  pub words : s.words ≡ w.words
  pub idle : w.idle < 8
  pub apart : w.idle ≢ w.current
  pub unheld : holders w.idle s.readers ≡ 0

-- The reader r has a beginning of the history, and behind it stands no deed of its own but those that it knows. What it heard of
-- the writer is a beginning too.
pub record RecordsReader (history : List Deed) (r : ℕ) (x : Reading) : Type 0 where
  pub grows : Grows (suc r) x.history history x.pending
  pub heard : IsPrefix x.heard history

abbrev pub RecordsAll : List Deed → List (ℕ × Reading) → Type 0
RecordsAll history [] = Unit {0}
RecordsAll history (y ∷ ys) = RecordsReader history y.0 y.1 × RecordsAll history ys

-- There is a lawful state which the words show. Each seat stands for its readers in it, and one for the writer. A spent seat stands
-- for nobody; one that was dropped still stands for whom it stood. Which seat stands for whom is known to the rule alone.
--
-- There is one history: a run of the core from the opening to that state. What each seat keeps is a beginning of it, with all
-- deeds of its own; so no deed can be put in before another's last one, or left out, and a step only appends to it.
pub record Banked (W : ℕ) (t : State (Unit {0}) Known) : Type 0 where
  pub core : PinState
  pub own : ℕ → ℕ
  pub writer_seat : ℕ
  pub lawful : Lawful W core
  pub shows : Shows W t.words core
  pub numbered : (p : ℕ) → p < published core → IsNumbered W p (publication_at core p)
  pub readers : (id : ℕ) (v : Known) → get_elem? t.views id ≡ some v → StandsForAll core own id v.readers
  pub first : List ℕ
  pub wide : length first ≡ W
  pub history : List Deed
  pub run : Runs W (opening first) (deed_events history) (answers_of history) core
  pub recorded : (id : ℕ) (v : Known) → get_elem? t.views id ≡ some v → RecordsAll history v.readers
  pub noted : (id : ℕ) (v : Known) (w : Writing) → get_elem? t.views id ≡ some v → v.writer ≡ Some w → Grows 0 w.history history []
  pub writer : (id : ℕ) (v : Known) (w : Writing) → get_elem? t.views id ≡ some v → v.writer ≡ Some w → (writer_seat ≡ id) × Leads core w

-- The rule of a bank's table: its buffers have as many words as it has slots.
abbrev pub IsBank : State (Unit {0}) Known → Type 0
IsBank t = Banked (length t.homes) t
