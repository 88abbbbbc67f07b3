-- A seat of the bank, for the contracts of its steps.
use Rattle.std.specs.Prelude.{◌≡◌, ◌≢◌, ℕ, suc, ◌+◌, ◌-◌, ◌*◌, ◌/◌, ◌<◌, ◌≤◌, ◌⊎◌, List, [], ◌∷◌, ◌++◌, length, take, map, sum_by, slice_index, slice_index_or, false, Option, Some, None}
use Rattle.atomic_table.specs.Seated.{TableId}
use Rattle.atomic_table.specs.declared.shared.Seat.{Seat}
use Rattle.xcp_bank.specs.declared.taken.Taken.{Taken}
use Rattle.xcp_bank.specs.declared.taken.Taken.TheVariants.{Same, Newer}
use Rattle.xcp_bank.specs.PinHistory.{Deed, Grows, Does, EndsInDeed, AllScans, looked_at, pinned_at, given_up, has_reset, has_published, reads_of, writes_of}
use Rattle.xcp_bank.specs.HeldBufferCount.{others, scanned_buffer, scan_of, unquiet}
use Rattle.xcp_bank.specs.private.ReaderSteps.{Reaches, Looked, Pinned, UpToDate, FollowsHistory, reading_after_read}
use Rattle.xcp_bank.specs.TableRule.{IsNumbered}
use Rattle.xcp_bank.specs.Images.{image_in_words}
use Rattle.xcp_bank.specs.private.BlockMarks.{Sized}
use Rattle.xcp_bank.specs.private.WriterSteps.{WriterUpToDate}
use mathlib.Core.List.{IsPrefix}
use Rattle.xcp_bank.specs.SeatKnowledge.{AllBegin, Reading, Writing, Known, one_reader}
use Rattle.xcp_bank.specs.private.Everybody.{the_writer, everybody}

-- A bank's table has buffers of 2 to 131,073 words, and as many slots as a buffer has words.
pub record IsWide (bank : TableId) : Type 0 where
  pub size : bank.words ≡ 9 + 8 * bank.slots
  pub some : 1 < bank.slots
  pub few : bank.slots ≤ 131073

-- how many bytes an image in it has
abbrev pub bytes_of_table : TableId → ℕ
bytes_of_table bank = 8 * (bank.slots - 1)

-- The seat is of this bank, and stands for the reader r, which is as x says.
pub record IsReaderSeat (seat : Seat (Unit {0}) Known) (bank : TableId) (r : ℕ) (x : Reading) : Type 0 where
  pub bank_is : seat.table_id ≡ bank
  pub wide : IsWide bank
  pub me : seat.me ≡ (one_reader r x, [])

-- The first seat, while it stands for the readers below n too.
pub record IsFirstSeat (seat : Seat (Unit {0}) Known) (bank : TableId) (n : ℕ) (words : List ℕ) : Type 0 where
  pub bank_is : seat.table_id ≡ bank
  pub wide : IsWide bank
  pub me : seat.me ≡ (everybody n words, [])
  pub size : length words ≡ bank.slots

-- The seat is of this bank, and stands for the writer, which is as w says.
pub record IsWriterSeat (seat : Seat (Unit {0}) Known) (bank : TableId) (w : Writing) : Type 0 where
  pub bank_is : seat.table_id ≡ bank
  pub wide : IsWide bank
  pub me : seat.me ≡ (the_writer w, [])

-- One step or more of a reader's seat, or of the writer's, in buffers of as many words as the bank's have.
abbrev pub ReaderMoves : (ℕ → ℕ → Reading → Reading → Type 0) → Seat (Unit {0}) Known → Seat (Unit {0}) Known → TableId → Type 0
ReaderMoves after old new bank = (r : ℕ) (x : Reading) → IsReaderSeat old bank r x → (y : Reading) × IsReaderSeat new bank r y × after bank.slots r x y

abbrev pub WriterMoves : (ℕ → Writing → Writing → Type 0) → Seat (Unit {0}) Known → Seat (Unit {0}) Known → TableId → Type 0
WriterMoves after old new bank = (w : Writing) → IsWriterSeat old bank w → (u : Writing) × IsWriterSeat new bank u × after bank.slots w u

abbrev pub buffer_of : Option (ℕ × ℕ) → Option ℕ
buffer_of None = None
buffer_of (Some h) = Some h.0

-- the buffer that a reader holds
abbrev pub buffer_held : Reading → Option ℕ
buffer_held x = buffer_of x.pins.held

-- A Look, or a Pin, that told this buffer.

abbrev pub LookedAt : ℕ → ℕ → ℕ → Reading → Reading → Type 0
LookedAt buffer W r x y = (n : ℕ) × (k : Looked W r x n y) × (buffer ≡ k.index)

abbrev pub PinnedAt : ℕ → ℕ → ℕ → Reading → Reading → Type 0
PinnedAt buffer W r x y = (n : ℕ) × (k : Pinned W r x n y) × (buffer ≡ k.index)

-- A Read of word k of the publication p, which is held: it was answered `word`.
pub record WordRead (k p word W : ℕ) (r : ℕ) (x y : Reading) : Type 0 where
  pub before : List Deed
  pub reaches : Reaches r x before
  pub is : y ≡ reading_after_read r k word before x
  pub follows : FollowsHistory W r y
  pub value : word ≡ slice_index (slice_index_or x.list p []) k
  pub numbered : IsNumbered W p (slice_index_or x.list p [])
  pub pasts : AllBegin x.past x.list

-- A Read of word k of the held buffer.
abbrev pub WordReadAt : ℕ → ℕ → ℕ → ℕ → ℕ → Reading → Reading → Type 0
WordReadAt buffer k word W r x y = (p : ℕ) → x.pins.held ≡ Some (buffer, p) → WordRead k p word W r x y

-- What a reader knows after it has acquired: it holds the last of the publications that it has seen then.
pub record SeatAcquired (taken : Taken) (buffer W : ℕ) (r : ℕ) (x y : Reading) : Type 0 where
  pub low : buffer < 8
  pub some : 0 < length y.list
  pub begins : IsPrefix x.list y.list
  pub pasts : AllBegin x.past y.list
  pub settled : y.past ≡ []
  pub held : y.pins.held ≡ Some (buffer, length y.list - 1)
  pub looked : y.pins.looked ≡ buffer
  pub here : y.pins.gone ≡ false
  pub placed : y.pending ≡ []
  pub heard_is : y.heard ≡ x.heard
  pub heard : IsPrefix x.heard y.history
  pub up_to_date : UpToDate W r y
  pub deeds : List Deed
  pub did : Does (suc r) x.history x.pending y.history y.pending deeds
  pub once : taken ≡ Same → (deeds ≡ looked_at r buffer ∷ []) × EndsInDeed y.history (looked_at r buffer)
  pub first : x.pins.held ≡ None → deeds ≡ pinned_at r buffer ∷ []
  pub other : taken ≡ Newer → (b p : ℕ) → x.pins.held ≡ Some (b, p) → (i : ℕ) × (i ≢ b) × (deeds ≡ looked_at r i ∷ given_up r false ∷ pinned_at r buffer ∷ [])
  pub last : taken ≡ Newer → EndsInDeed y.history (pinned_at r buffer)
  pub same : taken ≡ Same → x.pins.held ≡ Some (buffer, length y.list - 1)
  pub newer : taken ≡ Newer → (b p : ℕ) → x.pins.held ≡ Some (b, p) → p + 1 < length y.list

-- Reads of n words from word k on, of the publication p that is held: nothing changes but the history, which is a run if it was one.
-- With one Read at least the publication is known to be whole, and what was told before to begin what is there now.
pub record HasRead (k n p W : ℕ) (r : ℕ) (x y : Reading) : Type 0 where
  pub pins : y.pins ≡ x.pins
  pub list : y.list ≡ x.list
  pub past : y.past ≡ x.past
  pub heard_is : y.heard ≡ x.heard
  pub follows : FollowsHistory W r x → FollowsHistory W r y
  pub numbered : 0 < n → IsNumbered W p (slice_index_or x.list p [])
  pub pasts : 0 < n → AllBegin x.past x.list
  pub heard : 0 < n → IsPrefix x.heard y.history
  pub did : Does (suc r) x.history x.pending y.history y.pending (reads_of r (slice_index_or x.list p []) k n)

-- Reads of the n words from word k on of what is held, behind others, while bytes are read from the byte `at` of an image on: the bytes
-- that lie in these words are put, and no others.
pub record ReadsOn (bank : TableId) (buffer at k n : ℕ) (old new : Seat (Unit {0}) Known) (before after : List ℕ) : Type 0 where
  pub size : length after ≡ length before
  pub elsewhere : (j : ℕ) → ((at + j) / 8 < k) ⊎ (k + n ≤ (at + j) / 8) → slice_index after j ≡ slice_index before j
  pub there : (r : ℕ) (y : Reading) (p : ℕ) → IsReaderSeat old bank r y → y.pins.held ≡ Some (buffer, p) → (j : ℕ) → j < length before → k ≤ (at + j) / 8 → (at + j) / 8 < k + n → slice_index after j ≡ slice_index (image_in_words (slice_index_or y.list p [])) (at + j)
  pub reads : (r : ℕ) (x y : Reading) (p from m : ℕ) → IsReaderSeat old bank r y → y.pins.held ≡ Some (buffer, p) → HasRead from m p bank.slots r x y → from + m ≡ k → (z : Reading) × IsReaderSeat new bank r z × HasRead from (m + n) p bank.slots r x z

-- Scans, up to the buffer `next`, of which none has found the idle buffer.
abbrev pub scanned_to : Option ℕ → List Deed → Writing → Writing
scanned_to quiet history w = record w { pins = record w.pins { quiet = quiet }; history = history }

pub record Searched (next : ℕ) (w u : Writing) : Type 0 where
  pub quiet : Option ℕ
  pub history : List Deed
  pub is : u ≡ scanned_to quiet history w
  pub scans : List Deed
  pub grows : Grows 0 w.history history scans
  pub only : AllScans scans
  pub most : length scans ≤ next
  pub fewer : w.current < next → length scans + 1 ≤ next
  pub not_yet : next ≤ w.idle

-- Scans, of which the last found buffer b quiet.
pub record FoundQuiet (b : ℕ) (w u : Writing) : Type 0 where
  pub history : List Deed
  pub low : b < 8
  pub is : u ≡ scanned_to (Some b) history w
  pub scans : List Deed
  pub grows : Grows 0 w.history history scans
  pub only : AllScans scans
  pub most : length scans ≤ 7

-- A Scan of each buffer below `next` but the current one, of which `held` weren't quiet. The idle one was.
pub record HeldCounted (next held W : ℕ) (w u : Writing) : Type 0 where
  pub quiet : Option ℕ
  pub history : List Deed
  pub is : u ≡ scanned_to quiet history w
  pub found : List (ℕ × ℕ)
  pub each : map scanned_buffer found ≡ others w.current next
  pub grows : Grows 0 w.history history (map scan_of found)
  pub held_is : held ≡ sum_by (unquiet w.pins.started) found
  pub long : length found ≤ next
  pub ahead : next ≤ w.current → length found ≡ next
  pub behind : w.current < next → length found + 1 ≡ next
  pub most : held ≤ length found
  pub fewer : w.idle < next → held + 1 ≤ length found
  pub up_to_date : 0 < length found → WriterUpToDate W u

-- What the writer knows between two publications.
pub record Rests (current : ℕ) (started : List ℕ) (w : Writing) : Type 0 where
  pub current_is : w.current ≡ current
  pub started_is : w.pins.started ≡ started
  pub low : w.current < 8
  pub building : w.pins.building ≡ None
  pub idle : w.idle < 8
  pub apart : w.idle ≢ w.current

-- the writer after it has written these words, and the words of all buffers then
abbrev pub filled : List ℕ → List (List ℕ) → List Deed → Writing → Writing
filled words all history w = record w { pins = record w.pins { written = words }; words = all; history = history }

-- Buffer b has the words of this list from word k on up to word n.
abbrev pub HasWords : ℕ → ℕ → ℕ → List ℕ → List (List ℕ) → Type 0
HasWords b k n words all = (j : ℕ) → k ≤ j → j < n → slice_index (slice_index_or all b []) j ≡ slice_index words j

-- So far the words of a list below `done` are written to the buffer b. All of them below k stand there, those behind are as they were
-- before, and so are the other buffers.
pub record WrittenSoFar (bank : TableId) (seat : Seat (Unit {0}) Known) (b k : ℕ) (words : List ℕ) (w : Writing) : Type 0 where
  pub building : w.pins.building ≡ Some b
  pub done : ℕ
  pub low : done ≤ k
  pub history : List Deed
  pub all : List (List ℕ)
  pub sits : IsWriterSeat seat bank (filled (take done words) all history w)
  pub grows : Grows 0 w.history history (writes_of words done)
  pub there : HasWords b 0 k words all
  pub sized : Sized bank.slots all
  pub ahead : (j : ℕ) → k ≤ j → slice_index (slice_index_or all b []) j ≡ slice_index (slice_index_or w.words b []) j
  pub others : (c : ℕ) → c ≢ b → slice_index_or all c [] ≡ slice_index_or w.words c []

-- The words were published, by at most 7 Scans, one Reset, a Write of each and one Publish.
pub record Publishes (words : List ℕ) (W : ℕ) (w u : Writing) : Type 0 where
  pub list : u.pins.publications ≡ w.pins.publications ++ words ∷ []
  pub scans : List Deed
  pub buffer : ℕ
  pub only : AllScans scans
  pub most : length scans ≤ 7
  pub grows : Grows 0 w.history u.history (scans ++ has_reset buffer ∷ (writes_of words (length words) ++ has_published ∷ []))
  pub last : EndsInDeed u.history has_published
  pub up_to_date : WriterUpToDate W u
