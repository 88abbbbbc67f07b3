-- What happened in the core of pins, in order: events with their answers, and who did them.
use Rattle.std.specs.Prelude.{◌≡◌, ℕ, zero, suc, ◌+◌, List, [], ◌∷◌, ◌++◌, length, ◌==◌, if◌then◌else◌, Bool, slice_index}
use Rattle.pin_core.specs.declared.events.Event.{Event}
use Rattle.pin_core.specs.declared.events.Event.TheVariants as ev
use Rattle.pin_core.specs.declared.events.Seen.{Seen}
use Rattle.pin_core.specs.declared.events.Seen.TheVariants as an
use Rattle.pin_core.specs.State.{PinState, opening}
use Rattle.pin_core.specs.Steps.{Runs}

-- An event and its answer.
abbrev pub Deed : Type 0
Deed = Event × Seen

abbrev pub deed_events : List Deed → List Event
deed_events [] = []
deed_events (d ∷ ds) = d.0 ∷ deed_events ds

abbrev pub answers_of : List Deed → List Seen
answers_of [] = []
answers_of (d ∷ ds) = d.1 ∷ answers_of ds

-- The history is a run of the core to this state, from the opening with some first image, in buffers of W words. So all laws over
-- runs of the core hold of it.
abbrev pub Ran : ℕ → List Deed → PinState → Type 0
Ran W history s = (first : List ℕ) × (length first ≡ W) × Runs W (opening first) (deed_events history) (answers_of history) s

-- who does it: 0 is the writer, and 1 + r the reader r
abbrev pub doer : Event → ℕ
doer (ev.Look r) = suc r
doer (ev.Unpin r last) = suc r
doer (ev.Pin r) = suc r
doer (ev.Read r k) = suc r
doer _ = 0

-- those that are one's own
abbrev pub deeds_by : ℕ → List Deed → List Deed
deeds_by who [] = []
deeds_by who (d ∷ ds) = if who == doer d.0 then d ∷ deeds_by who ds else deeds_by who ds

-- The new history goes on where the old one ends, and these are one's own deeds in between.
pub record Grows (who : ℕ) (old new own : List Deed) : Type 0 where
  pub more : List Deed
  pub is : new ≡ old ++ more
  pub own_is : deeds_by who more ≡ own

-- The same from one call's end to another's: `pending` and `kept` are one's own deeds whose place in the history isn't known yet,
-- before and after.
pub record Does (who : ℕ) (old pending new kept deeds : List Deed) : Type 0 where
  pub more : List Deed
  pub is : new ≡ old ++ more
  pub own_is : deeds_by who more ++ kept ≡ pending ++ deeds

-- The history ends with this deed.
abbrev pub EndsInDeed : List Deed → Deed → Type 0
EndsInDeed history d = (front : List Deed) × (history ≡ front ++ d ∷ [])

-- the deeds, by name

abbrev pub looked_at : ℕ → ℕ → Deed
looked_at r index = (ev.Look r, an.Index index)

abbrev pub pinned_at : ℕ → ℕ → Deed
pinned_at r index = (ev.Pin r, an.Index index)

abbrev pub given_up : ℕ → Bool → Deed
given_up r last = (ev.Unpin r last, an.Done)

abbrev pub has_read : ℕ → ℕ → ℕ → Deed
has_read r k word = (ev.Read r k, an.Word word)

abbrev pub has_scanned : ℕ → ℕ → Deed
has_scanned b n = (ev.Scan b, an.Leavings n)

abbrev pub has_reset : ℕ → Deed
has_reset b = (ev.Reset b, an.Done)

abbrev pub has_written : ℕ → ℕ → Deed
has_written k word = (ev.Write k word, an.Done)

abbrev pub has_published : Deed
has_published = (ev.Publish, an.Done)

-- Each is a Scan.
abbrev pub AllScans : List Deed → Type 0
AllScans [] = Unit {0}
AllScans (d ∷ ds) = ((b : ℕ) × (n : ℕ) × (d ≡ has_scanned b n)) × AllScans ds

-- Reads of n words, from word k on
abbrev pub reads_of : ℕ → List ℕ → ℕ → ℕ → List Deed
reads_of r words k zero = []
reads_of r words k (suc n) = reads_of r words k n ++ has_read r (k + n) (slice_index words (k + n)) ∷ []

-- Writes of the first n words
abbrev pub writes_of : List ℕ → ℕ → List Deed
writes_of words zero = []
writes_of words (suc n) = writes_of words n ++ has_written n (slice_index words n) ∷ []
