-- What follows for every list of events, whoever comes when.
use Rattle.std.specs.Prelude.{◌≡◌, ◌≢◌, ℕ, ◌+◌, ◌-◌, ◌<◌, ◌≤◌, Bool, ⊤, List, ◌++◌, length, take, slice_get, slice_index, Option, Some, None}
use Rattle.pin_core.specs.declared.events.Event.{Event}
use Rattle.pin_core.specs.declared.events.Event.TheVariants.{Unpin, Pin, Read, Scan, Reset, Write, Publish}
use Rattle.pin_core.specs.declared.events.Seen.{Seen}
use Rattle.pin_core.specs.declared.events.Seen.TheVariants.{Word}
use Rattle.pin_core.specs.State.{PinState, reader, words_of_buffer, published, publication_at, opening}
use Rattle.pin_core.specs.Steps.{IsEnabled, Steps, Runs}
use Rattle.pin_core.specs.StateInvariant.{holders, Lawful, IsIdle}

-- The opening state of 1 to 131,073 words is lawful.
abbrev pub OpensLawful : Type 0
OpensLawful = (first : List ℕ) → 0 < length first → length first ≤ 131073 → Lawful (length first) (opening first)

-- Each run from a lawful state ends in a lawful state; so does each beginning of a run, so all states on the way are lawful.
abbrev pub RunsStayLawful : Type 0
RunsStayLawful = (W : ℕ) (s t : PinState) (events : List Event) (answers : List Seen)
    → Lawful W s → Runs W s events answers t → Lawful W t

-- An event that can happen has one answer and one next state.
abbrev pub StepsAreDetermined : Type 0
StepsAreDetermined = (W : ℕ) (s t u : PinState) (e : Event) (a b : Seen)
    → Steps W s e a t → Steps W s e b u → (a ≡ b) × (t ≡ u)

-- An event has a step exactly where it is enabled.
abbrev pub StepsWhereEnabled : Type 0
StepsWhereEnabled = (W : ℕ) (s : PinState) (e : Event)
    → (IsEnabled W s e → (a : Seen) × (t : PinState) × Steps W s e a t)
    × ((a : Seen) (t : PinState) → Steps W s e a t → IsEnabled W s e)

-- the buffer that an event resets, writes or publishes
abbrev pub touched : PinState → Event → Option ℕ
touched s (Reset b) = Some b
touched s (Write k x) = s.writer.building
touched s Publish = s.writer.building
touched s _ = None

-- No buffer is reset, written or published while a reader holds it, and its words stay as they are.
abbrev pub HeldBuffersAreLeftAlone : Type 0
HeldBuffersAreLeftAlone = (W : ℕ) (s t : PinState) (e : Event) (a : Seen) (r b p : ℕ)
    → Lawful W s → Steps W s e a t → (reader s r).held ≡ Some (b, p)
    → (touched s e ≢ Some b) × (words_of_buffer t b ≡ words_of_buffer s b)

-- these events have no Unpin of reader r
abbrev pub KeepsHold : ℕ → List Event → Type 0
KeepsHold r events = (i : ℕ) (last : Bool) → slice_get events i ≢ Some (Unpin r last)

-- each Read of reader r among these events is answered by a word of this image
abbrev pub ReadsOf : ℕ → List ℕ → List Event → List Seen → Type 0
ReadsOf r image events answers = (i k : ℕ) → slice_get events i ≡ Some (Read r k)
    → (k < length image) × (slice_get answers i ≡ Some (Word (slice_index image k)))

-- As long as a reader doesn't give back what it holds, it holds the same buffer with the same publication, which stays what it is,
-- and every Read answers a word of that publication.
abbrev pub ReadsOnePublication : Type 0
ReadsOnePublication = (W : ℕ) (s t : PinState) (events : List Event) (answers : List Seen) (r b p : ℕ)
    → Lawful W s → Runs W s events answers t → (reader s r).held ≡ Some (b, p) → KeepsHold r events
    → ((reader t r).held ≡ Some (b, p)) × (publication_at t p ≡ publication_at s p) × (length (publication_at s p) ≡ W)
    × ReadsOf r (publication_at s p) events answers

-- A Pin gives the current buffer with the last publication, whose number is at least what the reader had seen, less one.
abbrev pub PinsTheLast : Type 0
PinsTheLast = (W : ℕ) (s t : PinState) (a : Seen) (r : ℕ)
    → Lawful W s → Steps W s (Pin r) a t
    → (p : ℕ) × ((reader t r).held ≡ Some (s.index, p)) × (p + 1 ≡ published s) × ((reader s r).seen - 1 ≤ p)

-- Over any run publications are only added at the end, and no reader has seen fewer than before.
abbrev pub NothingIsUnseen : Type 0
NothingIsUnseen = (W : ℕ) (s t : PinState) (events : List Event) (answers : List Seen) (r : ℕ)
    → Lawful W s → Runs W s events answers t
    → (more : List (List ℕ)) × (t.writer.publications ≡ s.writer.publications ++ more) × ((reader s r).seen ≤ (reader t r).seen)

-- In each lawful state some buffer that is not current has no holder.
abbrev pub SomeBufferIsIdle : Type 0
SomeBufferIsIdle = (W : ℕ) (s : PinState) → Lawful W s → (b : ℕ) × IsIdle s b

-- Only the current buffer gains holders.
abbrev pub OnlyTheCurrentGains : Type 0
OnlyTheCurrentGains = (W : ℕ) (s t : PinState) (e : Event) (a : Seen) (b : ℕ)
    → Lawful W s → Steps W s e a t → b ≢ s.index → holders b t.readers ≤ holders b s.readers

-- an event by which the writer builds or publishes an image
abbrev pub Builds : Event → Type 0
Builds (Reset b) = ⊤
Builds (Write k x) = ⊤
Builds Publish = ⊤
Builds _ = ⊥

-- these events have no such event: the writer only scans
abbrev pub OnlyScans : List Event → Type 0
OnlyScans events = (i : ℕ) (e : Event) → slice_get events i ≡ Some e → ¬ Builds e

-- these events have a Scan of each buffer but the current one
abbrev pub ScansAllOthers : PinState → List Event → Type 0
ScansAllOthers s events = (b : ℕ) → b < 8 → b ≢ s.index → (i : ℕ) × (slice_get events i ≡ Some (Scan b))

-- one of these events is a Scan that finds its buffer quiet
abbrev pub FindsQuiet : ℕ → PinState → List Event → Type 0
FindsQuiet W s events = (i b : ℕ) × (answers : List Seen) × (u : PinState)
    × (slice_get events i ≡ Some (Scan b)) × Runs W s (take (i + 1) events) answers u × (u.writer.quiet ≡ Some b)

-- A writer that scans all seven other buffers finds a quiet one, whatever the readers do meanwhile.
abbrev pub ScansFindAQuietBuffer : Type 0
ScansFindAQuietBuffer = (W : ℕ) (s t : PinState) (events : List Event) (answers : List Seen)
    → Lawful W s → Runs W s events answers t → OnlyScans events → ScansAllOthers s events → FindsQuiet W s events
