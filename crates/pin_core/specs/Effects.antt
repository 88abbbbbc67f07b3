-- The table of events: for each of the eight when it can happen (Can..), what its actor knows then (a word in -ing), and the state
-- behind it (after_..). Each is one atomic step of one actor. W is the number of words of a buffer.
use Rattle.std.specs.Prelude.{◌≡◌, ◌≢◌, ℕ, ◌+◌, ◌-◌, ◌<◌, Bool, true, false, ◌||◌, ◌==◌, if◌then◌else◌, [], ◌∷◌, ◌++◌, length, slice_index, slice_set, Some, None, ◌⊎◌}
use Rattle.pin_core.specs.State.{Reader, Writer, PinState, reader, words_of_buffer, leavings_of, published}

-- Look: reader r asks which buffer is current, and so sees as many publications as there are.

abbrev pub CanLook : PinState → ℕ → Type 0
CanLook s r = (r < 6) × ((reader s r).gone ≡ false)

abbrev pub looking : ℕ → ℕ → Reader → Reader
looking index seen x = record x { looked = index; seen = seen }

abbrev pub after_look : PinState → ℕ → PinState
after_look s r = record s { readers = slice_set s.readers r (looking s.index (published s) (reader s r)) }

-- Pin: reader r takes hold of the current buffer, which counts one more. This is its last Look too.

abbrev pub CanPin : PinState → ℕ → Type 0
CanPin s r = (r < 6) × ((reader s r).gone ≡ false) × ((reader s r).held ≡ None)

abbrev pub pinning : ℕ → ℕ → Reader → Reader
pinning index seen x = record { held = Some (index, seen - 1); looked = index; seen = seen; gone = x.gone }

abbrev pub after_pin : PinState → ℕ → PinState
after_pin s r = record s { count = s.count + 1; readers = slice_set s.readers r (pinning s.index (published s) (reader s r)) }

-- Unpin: reader r gives back the buffer b that it holds, once it has seen that another one is current, or when it leaves for good.

abbrev pub CanUnpin : PinState → ℕ → ℕ → ℕ → Bool → Type 0
CanUnpin s r b p last = (r < 6) × ((reader s r).held ≡ Some (b, p)) × (((reader s r).looked ≢ b) ⊎ (last ≡ true))

abbrev pub leaving : Bool → Reader → Reader
leaving last x = record x { held = None; gone = x.gone || last }

abbrev pub after_unpin : PinState → ℕ → ℕ → Bool → PinState
after_unpin s r b last = record s { leavings = slice_set s.leavings b (leavings_of s b + 1); readers = slice_set s.readers r (leaving last (reader s r)) }

-- Read: reader r reads word k of the buffer b that it holds. Nothing changes.

abbrev pub CanRead : ℕ → PinState → ℕ → ℕ → ℕ → ℕ → Type 0
CanRead W s r k b p = (r < 6) × ((reader s r).held ≡ Some (b, p)) × (k < W)

-- Scan: the writer looks whether all who pinned buffer b have left it.

abbrev pub CanScan : PinState → ℕ → Type 0
CanScan s b = (b < 8) × (b ≢ s.index) × (s.writer.building ≡ None)

abbrev pub scanning : ℕ → ℕ → Writer → Writer
scanning b left w = record w { quiet = if slice_index w.started b == left then Some b else None }

abbrev pub after_scan : PinState → ℕ → PinState
after_scan s b = record s { writer = scanning b (leavings_of s b) s.writer }

-- Reset: the writer takes the quiet buffer b to build the next image in it. The buffer stays quiet, so a Reset in mid-build starts anew.

abbrev pub CanReset : PinState → ℕ → Type 0
CanReset s b = (b < 8) × (s.writer.quiet ≡ Some b)

abbrev pub resetting : ℕ → Writer → Writer
resetting b w = record w { started = slice_set w.started b 0; building = Some b; written = [] }

abbrev pub after_reset : PinState → ℕ → PinState
after_reset s b = record s { leavings = slice_set s.leavings b 0; writer = resetting b s.writer }

-- Write: the writer writes word k, the next one, of the buffer b that is being built.

abbrev pub CanWrite : ℕ → PinState → ℕ → ℕ → Type 0
CanWrite W s k b = (s.writer.building ≡ Some b) × (length s.writer.written ≡ k) × (k < W)

abbrev pub writing : ℕ → Writer → Writer
writing x w = record w { written = w.written ++ x ∷ [] }

abbrev pub after_write : PinState → ℕ → ℕ → ℕ → PinState
after_write s k x b = record s { words = slice_set s.words b (slice_set (words_of_buffer s b) k x); writer = writing x s.writer }

-- Publish: the buffer b, built in full, becomes the current one, with no pins yet; the pins that the old one got are noted.

abbrev pub CanPublish : ℕ → PinState → ℕ → Type 0
CanPublish W s b = (s.writer.building ≡ Some b) × (length s.writer.written ≡ W)

abbrev pub publishing : ℕ → ℕ → Writer → Writer
publishing index count w = record {
  started = slice_set w.started index count;
  quiet = None;
  building = None;
  written = [];
  publications = w.publications ++ w.written ∷ [];
}

abbrev pub after_publish : PinState → ℕ → PinState
after_publish s b = record s { index = b; count = 0; writer = publishing s.index s.count s.writer }
