-- The two ends of a bank, as contracts see them: in images, without a word or a seat.
use Rattle.std.specs.Prelude.{◌≡◌, ◌≢◌, ◌↔◌, ℕ, suc, ◌+◌, ◌-◌, ◌/◌, ◌<◌, ◌≤◌, false, true, List, [], ◌∷◌, ◌++◌, length, map, sum_by, slice_index_or, Option, Some, None}
use Rattle.xcp_bank.specs.BankId.{BankId, bank_of, buffer_words, image_bytes}
use Rattle.atomic_table.specs.Seated.{TableId}
use Rattle.xcp_bank.specs.PinHistory.{Deed, Grows, Does, Ran, EndsInDeed, AllScans, looked_at, pinned_at, given_up, has_reset, has_published, reads_of, writes_of}
use Rattle.xcp_bank.specs.HeldBufferCount.{others, scanned_buffer, scan_of, unquiet}
use Rattle.xcp_bank.specs.declared.taken.Taken.{Taken}
use Rattle.xcp_bank.specs.declared.taken.Taken.TheVariants.{Same, Newer}
use mathlib.Core.List.{IsPrefix}
use Rattle.xcp_bank.specs.SeatKnowledge.{AllBegin, Reading, Writing}
use Rattle.pin_core.specs.State.{PinState, reader}
use Rattle.xcp_bank.specs.Images.{image_in_words, images}

-- A reader.
pub record ReaderEnd : Type 0 where
  -- its bank, and which of the six it is, from 0
  pub bank : BankId
  pub index : ℕ
  -- the buffer that it holds, and the number of the publication there
  pub held : Option (ℕ × ℕ)
  -- the buffer that was current at its last Look or Pin
  pub looked : ℕ
  -- the images that it has seen, the newest last: they are the first ones of all that were published
  pub seen : List (List ℕ)
  -- what it had seen each time it was told, since its own last Look or Pin
  pub past : List (List (List ℕ))
  -- all that happened in the core up to its own last step, this the last; and what it did since by being told
  pub history : List Deed
  pub pending : List Deed
  -- the writer's history when it was told last: its own begins with it from its next step on
  pub heard : List Deed

-- The writer.
pub record WriterEnd : Type 0 where
  pub bank : BankId
  -- every image that was ever current, the newest last
  pub publications : List (List ℕ)
  -- the current buffer
  pub current : ℕ
  -- all that happened in the core up to its own last step, this the last
  pub history : List Deed

-- the image that was published last
abbrev pub newest : WriterEnd → List ℕ
newest w = slice_index_or w.publications (length w.publications - 1) []

-- what they are to contracts, by what their seats know

abbrev pub reader_end : TableId → ℕ → Reading → ReaderEnd
reader_end table r x = record {
  bank = bank_of table;
  index = r;
  held = x.pins.held;
  looked = x.pins.looked;
  seen = images x.list;
  past = map images x.past;
  history = x.history;
  pending = x.pending;
  heard = x.heard;
}

abbrev pub writer_end : TableId → Writing → WriterEnd
writer_end table w = record {
  bank = bank_of table;
  publications = images w.pins.publications;
  current = w.current;
  history = w.history;
}

-- A reader that has seen this image published and holds nothing.
abbrev pub new_reader : BankId → List ℕ → ℕ → ReaderEnd
new_reader bank image r = record { bank = bank; index = r; held = None; looked = 0; seen = image ∷ []; past = []; history = []; pending = []; heard = [] }

abbrev pub six_readers : BankId → List ℕ → List ReaderEnd
six_readers bank image = new_reader bank image 0 ∷ new_reader bank image 1 ∷ new_reader bank image 2 ∷ new_reader bank image 3 ∷ new_reader bank image 4 ∷ new_reader bank image 5 ∷ []

-- The writer that has published this image alone.
abbrev pub new_writer : BankId → List ℕ → WriterEnd
new_writer bank image = record { bank = bank; publications = image ∷ []; current = 0; history = [] }

-- The reader holds something; it holds the publication with this number.

abbrev pub Holds : ReaderEnd → Type 0
Holds x = x.held ≢ None

abbrev pub HoldsNumber : ReaderEnd → ℕ → Type 0
HoldsNumber x p = (b : ℕ) × (x.held ≡ Some (b, p))

abbrev pub image_at : Option (ℕ × ℕ) → List (List ℕ) → List ℕ
image_at None seen = []
image_at (Some h) seen = slice_index_or seen h.1 []

-- the image that it holds
abbrev pub image_held : ReaderEnd → List ℕ
image_held x = image_at x.held x.seen

-- how many words `n` bytes from the byte `at` on lie in; for no bytes 1 where `at` is inside a word, else 0
abbrev pub words_in : ℕ → ℕ → ℕ
words_in at n = (at + n + 7) / 8 - at / 8

-- From one call's end to another's, this reader did these deeds, in this order, and no others.
abbrev pub ReaderDoes : ReaderEnd → ReaderEnd → List Deed → Type 0
ReaderDoes old new deeds = Does (suc old.index) old.history old.pending new.history new.pending deeds

-- What a reader knows by a Look or a Pin, beside what it knew.
pub record KnowsMore (old new : ReaderEnd) : Type 0 where
  -- the images that it had seen are the first ones of those that it has seen now, and so is each list of which it was told since
  -- its last Look or Pin
  pub seen : IsPrefix old.seen new.seen
  pub past : AllBegin old.past new.seen
  pub settled : new.past ≡ []
  -- its history begins with the writer's, as it was told last
  pub heard : (new.heard ≡ old.heard) × IsPrefix old.heard new.history

-- What an acquire answers.
pub record TellsTaken (taken : Taken) (old new : ReaderEnd) : Type 0 where
  -- the same: what was held is the last image that it has seen
  pub same : taken ≡ Same ↔ HoldsNumber old (length new.seen - 1)
  -- a newer one: nothing was held, or an earlier one
  pub newer : taken ≡ Newer ↔ ((b p : ℕ) → old.held ≡ Some (b, p) → p < length new.seen - 1)

-- What an acquire does. Its last deed is the last in the history, and is answered by the buffer that it holds then.
pub record AcquireDoes (taken : Taken) (old new : ReaderEnd) : Type 0 where
  pub buffer : ℕ
  pub number : ℕ
  pub deeds : List Deed
  pub held : new.held ≡ Some (buffer, number)
  pub did : ReaderDoes old new deeds
  pub settled : new.pending ≡ []
  -- its history is a run to a state in which that buffer is current, what it has seen is all that is published, and it holds what it says
  pub state : PinState
  pub ran : Ran (buffer_words new.bank) new.history state
  pub current : state.index ≡ buffer
  pub seen : images state.writer.publications ≡ new.seen
  pub holds : (reader state old.index).held ≡ new.held
  -- the same: a Look
  pub once : taken ≡ Same → (deeds ≡ looked_at old.index buffer ∷ []) × EndsInDeed new.history (looked_at old.index buffer)
  -- a newer one: a Pin, and a Look and an Unpin before it where something was held
  pub first : old.held ≡ None → deeds ≡ pinned_at old.index buffer ∷ []
  pub other : taken ≡ Newer → (b p : ℕ) → old.held ≡ Some (b, p) → (i : ℕ) × (i ≢ b) × (deeds ≡ looked_at old.index i ∷ given_up old.index false ∷ pinned_at old.index buffer ∷ [])
  pub last : taken ≡ Newer → EndsInDeed new.history (pinned_at old.index buffer)

-- Its history is a run of the core to a state in which it holds what it says.
pub record IsRun (x : ReaderEnd) : Type 0 where
  pub state : PinState
  pub ran : Ran (buffer_words x.bank) x.history state
  pub holds : (reader state x.index).held ≡ x.held

-- Reads of n words from word k on, of the image that it holds: nothing changes but the history.
pub record ReadDoes (k n : ℕ) (old new : ReaderEnd) : Type 0 where
  pub words : List ℕ
  pub image : image_in_words words ≡ image_held old
  pub did : ReaderDoes old new (reads_of old.index words k n)
  pub same : new ≡ record old { history = new.history; pending = new.pending }

-- What a reader knows by a Read: what it was told stands first in what it knows, and the image that it held has all its bytes.
pub record FollowsTold (old new : ReaderEnd) : Type 0 where
  pub past : AllBegin old.past new.seen
  pub heard : IsPrefix old.heard new.history
  pub whole : length (image_held old) ≡ image_bytes old.bank

-- The reader has given back what it held by one last Unpin, after which the core has it as gone.
pub record GivesBack (old new : ReaderEnd) : Type 0 where
  pub before : List Deed
  pub did : Grows (suc old.index) old.history before old.pending
  pub is : new ≡ record old { held = None; history = before ++ given_up old.index true ∷ []; pending = [] }
  pub heard : IsPrefix old.heard before
  pub state : PinState
  pub ran : Ran (buffer_words new.bank) new.history state
  pub gone : (reader state old.index).gone ≡ true

-- What leaving does: where nothing is held, nothing.
abbrev pub LeavesBy : Option (ℕ × ℕ) → ReaderEnd → ReaderEnd → Type 0
LeavesBy None old new = new ≡ old
LeavesBy (Some h) old new = GivesBack old new

-- What publishing does: at most 7 Scans, one Reset, a Write of each word and one Publish, in this order, and no other.
pub record PublishDoes (words : List ℕ) (old new : WriterEnd) : Type 0 where
  pub scans : List Deed
  pub buffer : ℕ
  pub only : AllScans scans
  pub most : length scans ≤ 7
  pub did : Grows 0 old.history new.history (scans ++ has_reset buffer ∷ (writes_of words (length words) ++ has_published ∷ []))
  pub last : EndsInDeed new.history has_published
  -- its history is a run to a state in which its publications are all there are
  pub state : PinState
  pub ran : Ran (buffer_words new.bank) new.history state
  pub current : state.index ≡ new.current
  pub published : images state.writer.publications ≡ new.publications

-- What counting the held buffers does: a Scan of each buffer but the current one, seven in all, and no other deed. Its answer is how
-- many of them weren't quiet. Nothing changes but the history.
pub record HeldDoes (answer : ℕ) (old new : WriterEnd) : Type 0 where
  pub found : List (ℕ × ℕ)
  pub each : map scanned_buffer found ≡ others old.current 8
  pub seven : length found ≡ 7
  pub did : Grows 0 old.history new.history (map scan_of found)
  pub same : new ≡ record old { history = new.history }
  -- its history is a run to a state, in which each buffer has the pins by which these were or weren't quiet
  pub state : PinState
  pub ran : Ran (buffer_words new.bank) new.history state
  pub current : state.index ≡ old.current
  pub answer_is : answer ≡ sum_by (unquiet state.writer.started) found
