-- The step relation of a state, an event, an answer and the next state, and runs of events.
use Rattle.std.specs.Prelude.{◌≡◌, ℕ, List, [], ◌∷◌, take, slice_get, slice_index, Some}
use Rattle.pin_core.specs.declared.events.Event.{Event}
use Rattle.pin_core.specs.declared.events.Event.TheVariants.{Look, Unpin, Pin, Read, Scan, Reset, Write, Publish}
use Rattle.pin_core.specs.declared.events.Seen.{Seen}
use Rattle.pin_core.specs.declared.events.Seen.TheVariants.{Index, Word, Leavings, Done}
use Rattle.pin_core.specs.declared.events.StepError.{StepError}
use Rattle.pin_core.specs.declared.events.StepError.TheVariants as fault
use Rattle.pin_core.specs.declared.events.RunError.{RunError}
use Rattle.pin_core.specs.declared.events.RunError.TheVariants as stop
use Rattle.pin_core.specs.State.{PinState, words_of_buffer, leavings_of}
use Rattle.pin_core.specs.Effects.{CanLook, after_look, CanPin, after_pin, CanUnpin, after_unpin, CanRead, CanScan, after_scan, CanReset, after_reset, CanWrite, after_write, CanPublish, after_publish}

-- When an event can happen.
abbrev pub IsEnabled : ℕ → PinState → Event → Type 0
IsEnabled W s (Look r) = CanLook s r
IsEnabled W s (Unpin r last) = (b : ℕ) × (p : ℕ) × CanUnpin s r b p last
IsEnabled W s (Pin r) = CanPin s r
IsEnabled W s (Read r k) = (b : ℕ) × (p : ℕ) × CanRead W s r k b p
IsEnabled W s (Scan b) = CanScan s b
IsEnabled W s (Reset b) = CanReset s b
IsEnabled W s (Write k x) = (b : ℕ) × CanWrite W s k b
IsEnabled W s Publish = (b : ℕ) × CanPublish W s b

-- One event: it can happen in s, is answered a, and leads to t.
abbrev pub Steps : ℕ → PinState → Event → Seen → PinState → Type 0
Steps W s (Look r) a t = CanLook s r × (a ≡ Index s.index) × (t ≡ after_look s r)
Steps W s (Unpin r last) a t = (b : ℕ) × (p : ℕ) × CanUnpin s r b p last × (a ≡ Done) × (t ≡ after_unpin s r b last)
Steps W s (Pin r) a t = CanPin s r × (a ≡ Index s.index) × (t ≡ after_pin s r)
Steps W s (Read r k) a t = (b : ℕ) × (p : ℕ) × CanRead W s r k b p × (a ≡ Word (slice_index (words_of_buffer s b) k)) × (t ≡ s)
Steps W s (Scan b) a t = CanScan s b × (a ≡ Leavings (leavings_of s b)) × (t ≡ after_scan s b)
Steps W s (Reset b) a t = CanReset s b × (a ≡ Done) × (t ≡ after_reset s b)
Steps W s (Write k x) a t = (b : ℕ) × CanWrite W s k b × (a ≡ Done) × (t ≡ after_write s k x b)
Steps W s Publish a t = (b : ℕ) × CanPublish W s b × (a ≡ Done) × (t ≡ after_publish s b)

-- Events one after another, with their answers.
abbrev pub Runs : ℕ → PinState → List Event → List Seen → PinState → Type 0
Runs W s [] answers t = (answers ≡ []) × (t ≡ s)
Runs W s (e ∷ es) answers t = (a : Seen) × (u : PinState) × (rest : List Seen) × (answers ≡ a ∷ rest) × Steps W s e a u × Runs W u es rest t

-- Why one event of s was refused: it can't happen; or it is a Publish, and memory was refused for the copy of its words.
abbrev pub RefusesEvent : ℕ → PinState → Event → StepError → Type 0
RefusesEvent W s e fault.NotEnabled = ¬ IsEnabled W s e
RefusesEvent W s e fault.Memory = (e ≡ Publish) × IsEnabled W s e

-- Where a run of these events from s stopped, at t: the ones before index i have happened, and the one there is refused.
-- With no memory for the answers none has happened.
abbrev pub Stops : ℕ → PinState → List Event → RunError → PinState → Type 0
Stops W s es (stop.Refused i error) t = (e : Event) × (answers : List Seen)
    × (slice_get es i ≡ Some e) × Runs W s (take i es) answers t × RefusesEvent W t e error
Stops W s es stop.Memory t = t ≡ s
