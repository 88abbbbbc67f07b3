-- What each step of the writer tells its seat: from what it knew, by the number found, to what it knows then. `before` is all that has
-- happened in the core, of which nothing since the writer's last step is its own: what it has then is that and one deed more, the step's.
use Rattle.std.specs.Prelude.{◌≡◌, ◌≢◌, ℕ, zero, suc, ◌+◌, ◌*◌, ◌<◌, ◌≤◌, List, [], ◌∷◌, ◌++◌, length, slice_index, slice_index_or, slice_set, Option, Some, None}
use Rattle.atomic_table.specs.Table.{Step}
use Rattle.pin_core.specs.CurrentWord.{head_of}
use Rattle.pin_core.specs.State.{PinState}
use Rattle.pin_core.specs.Effects.{scanning, resetting, writing, publishing}
use Rattle.xcp_bank.specs.PinHistory.{Deed, Grows, Ran, has_scanned, has_reset, has_written, has_published}
use Rattle.xcp_bank.specs.SeatKnowledge.{Writing}
use Rattle.xcp_bank.specs.private.Everybody.{the_writer}
use Rattle.xcp_bank.specs.private.ReaderSteps.{Seat}

-- A step of the seat that stands for the writer.
abbrev pub writer_plays : (Writing → ℕ → Writing → Type 0) → Step (Unit {0}) → Seat → ℕ → Seat → Type 0
writer_plays after st m n m' = (w : Writing) → m.0 ≡ the_writer w → (u : Writing) × (m' ≡ (the_writer u, m.1)) × after w n u

-- What the writer knows is true of the state that its history ends in.
pub record WriterUpToDate (W : ℕ) (u : Writing) : Type 0 where
  pub state : PinState
  pub ran : Ran W u.history state
  pub index : state.index ≡ u.current
  pub pins : state.writer ≡ u.pins

abbrev pub writing_after_scan : ℕ → ℕ → List Deed → Writing → Writing
writing_after_scan b n before w = record w { pins = scanning b n w.pins; history = before ++ has_scanned b n ∷ [] }

-- Scan of buffer b: it is quiet where as many have left it as started. The idle buffer is.
pub record Scanned (W b : ℕ) (w : Writing) (n : ℕ) (u : Writing) : Type 0 where
  pub before : List Deed
  pub grows : Grows 0 w.history before []
  pub is : u ≡ writing_after_scan b n before w
  pub found : b ≡ w.idle → slice_index w.pins.started b ≡ n
  pub up_to_date : WriterUpToDate W u

abbrev pub writing_after_reset : ℕ → List Deed → Writing → Writing
writing_after_reset b before w = record w { pins = resetting b w.pins; history = before ++ has_reset b ∷ [] }

-- Reset of buffer b, which is being built then.
pub record WasReset (b : ℕ) (w : Writing) (n : ℕ) (u : Writing) : Type 0 where
  pub before : List Deed
  pub grows : Grows 0 w.history before []
  pub is : u ≡ writing_after_reset b before w

-- the words of the buffers, once word k of the one that is being built is x
abbrev pub rewritten : Option ℕ → ℕ → ℕ → List (List ℕ) → List (List ℕ)
rewritten None k x words = words
rewritten (Some b) k x words = slice_set words b (slice_set (slice_index_or words b []) k x)

abbrev pub writing_after_write : ℕ → List Deed → Writing → Writing
writing_after_write x before w = record w { pins = writing x w.pins; words = rewritten w.pins.building (length w.pins.written) x w.words; history = before ++ has_written (length w.pins.written) x ∷ [] }

-- Write of the next word, x.
pub record Written (x : ℕ) (w : Writing) (n : ℕ) (u : Writing) : Type 0 where
  pub before : List Deed
  pub grows : Grows 0 w.history before []
  pub is : u ≡ writing_after_write x before w

-- A look at the word i of the table, by which nothing changes: where it is word k of the buffer b, it is as the writer knows it.
pub record Peeked (W i : ℕ) (w : Writing) (n : ℕ) (u : Writing) : Type 0 where
  pub is : u ≡ w
  pub found : (b k : ℕ) → b < 8 → k < W → i ≡ 9 + (b * W + k) → n ≡ slice_index (slice_index_or w.words b []) k

-- the word that stands where the next one is to be written
abbrev pub word_there : Option ℕ → ℕ → List (List ℕ) → ℕ
word_there None k words = 0
word_there (Some b) k words = slice_index (slice_index_or words b []) k

abbrev pub standing : Writing → ℕ
standing w = word_there w.pins.building (length w.pins.written) w.words

-- Writes of the next n words, each of the word that stands there already. No word of the table changes.
abbrev pub WrittenAgain : ℕ → Writing → Writing → Type 0
WrittenAgain zero w u = u ≡ w
WrittenAgain (suc n) w u = (v : Writing) × WrittenAgain n w v × Written (standing v) v (standing v) u

-- All words before the word i of the table, which is one of the buffer that is being built, are written so.
pub record KeptUpTo (W i : ℕ) (w : Writing) (n : ℕ) (u : Writing) : Type 0 where
  pub count : ℕ
  pub place : (b : ℕ) → w.pins.building ≡ Some b → i ≡ 9 + (b * W + (length w.pins.written + count))
  pub writes : WrittenAgain count w u

abbrev pub writing_after_publish : ℕ → ℕ → ℕ → List Deed → Writing → Writing
writing_after_publish b count idle before w = record {
  pins = publishing w.current count w.pins;
  current = b;
  words = w.words;
  idle = idle;
  history = before ++ has_published ∷ [];
}

-- Publish of buffer b: the number found tells the pins that the old current buffer got, and some buffer is idle then.
pub record SeatPublished (W b : ℕ) (w : Writing) (n : ℕ) (u : Writing) : Type 0 where
  pub count : ℕ
  pub idle : ℕ
  pub before : List Deed
  pub grows : Grows 0 w.history before []
  pub found : n ≡ head_of w.current count
  pub few : count ≤ 6
  pub is : u ≡ writing_after_publish b count idle before w
  pub low : idle < 8
  pub apart : idle ≢ b
  pub up_to_date : WriterUpToDate W u
