-- What stands in the file of a recording.
use Rattle.std.specs.Prelude.{◌≡◌, ◌<◌, ◌⊎◌, ⊤, ℕ, List, [], Option, None, Some, MatchOption, true, false, length}
use Rattle.xcp_trace.specs.declared.Entry.{Entry}
use mathlib.Core.List.{IsPrefix}
use Rattle.xcp_record.specs.FileFormat.{last_chapter}
use Rattle.xcp_record.specs.JournalFile.{calls_of}
use Rattle.xcp_record.specs.Recording.{EndsInOrder, Records, StopsInMark, StopsInside}
use Rattle.xcp_record.specs.declared.fault.RecordFault.TheVariants.{Memory, Number, Write}
use Rattle.xcp_scribe.specs.declared.recording.Recording.{Recording}

-- All of these chapters stand in the file, whole, and nothing else does.
pub record StandsWhole {W : Type 0} (contents : W → Option (List ℕ)) (r : Recording W) (chapters : List (List Entry)) : Type 0 where
  pub fine : r.fault ≡ None
  pub going : r.recorder.stopped ≡ false
  pub unfailed : r.recorder.writer.failures ≡ 0
  pub records : Records (Some r.roster) r.layout (contents r.start.value) (contents r.recorder.writer.inner) r.recorder.hasher r.recorder.chapters r.recorder.calls chapters

-- Why a recording writes no more: a write failed, and no other before it; or none failed, and there was no memory, or a journal can't have
-- more chapters.
abbrev pub IsFaulty : {W : Type 0} → Recording W → Type 0
IsFaulty r =
    ((r.fault ≡ Some Write) × (r.recorder.writer.failures ≡ 1))
    ⊎ ((r.recorder.writer.failures ≡ 0) × ((r.fault ≡ Some Memory) ⊎ ((r.fault ≡ Some Number) × (last_chapter < r.recorder.chapters))))

-- The first ones of these chapters stand in the file, whole, with as many calls as the recording says; of the next one a prefix of its bytes,
-- and nothing of those behind it.
pub record StandsCut {W : Type 0} (contents : W → Option (List ℕ)) (r : Recording W) (chapters : List (List Entry)) : Type 0 where
  pub faulty : IsFaulty r
  pub stopped : r.recorder.stopped ≡ true
  pub whole : List (List Entry)
  pub first : IsPrefix whole chapters
  pub calls : r.recorder.calls ≡ length (calls_of whole)
  pub stops : StopsInside (Some r.roster) r.layout (contents r.start.value) (contents r.recorder.writer.inner) whole

-- What a recording has of the chapters that it was given: all of them and no fault, or a fault and the first ones.
abbrev pub HasWritten : {W : Type 0} → (W → Option (List ℕ)) → Recording W → List (List Entry) → Type 0
HasWritten contents r chapters = StandsWhole contents r chapters ⊎ StandsCut contents r chapters

-- All of these chapters stand in the file, whole, and the end mark behind them, and nothing else does.
pub record StandsEnded {W : Type 0} (contents : W → Option (List ℕ)) (r : Recording W) (chapters : List (List Entry)) : Type 0 where
  pub fine : r.fault ≡ None
  pub stopped : r.recorder.stopped ≡ true
  pub unfailed : r.recorder.writer.failures ≡ 0
  pub calls : r.recorder.calls ≡ length (calls_of chapters)
  pub ends : EndsInOrder (Some r.roster) r.layout (contents r.start.value) (contents r.recorder.writer.inner) chapters

-- All of these chapters stand in the file, whole, and of the end mark a prefix of its bytes.
pub record StandsUnmarked {W : Type 0} (contents : W → Option (List ℕ)) (r : Recording W) (chapters : List (List Entry)) : Type 0 where
  pub faulty : IsFaulty r
  pub stopped : r.recorder.stopped ≡ true
  pub calls : r.recorder.calls ≡ length (calls_of chapters)
  pub stops : StopsInMark (Some r.roster) r.layout (contents r.start.value) (contents r.recorder.writer.inner) chapters

-- What a recording that was ended has of the chapters that it was given: all of them, the end mark and no fault; or a fault, and all of them,
-- or the first ones.
abbrev pub HasEnded : {W : Type 0} → (W → Option (List ℕ)) → Recording W → List (List Entry) → Type 0
HasEnded contents r chapters = StandsEnded contents r chapters ⊎ (StandsUnmarked contents r chapters ⊎ StandsCut contents r chapters)

-- The first is a recording, or none, and so is the second: the first with the end mark of what it was given, and as many calls.
abbrev pub AreEnded : {W : Type 0} → (W → Option (List ℕ)) → Option (Recording W) → Option (Recording W) → Type 0
AreEnded contents None after = after ≡ None
AreEnded contents (Some r) after =
    MatchOption after ⊥ (λ e. ((chapters : List (List Entry)) → HasWritten contents r chapters → HasEnded contents e chapters) × (e.recorder.calls ≡ r.recorder.calls))

-- a recording of no chapter yet, if there is one, to a stream whose bytes contracts don't see
abbrev pub HasBegun : {W : Type 0} → Option (Recording W) → Type 0
HasBegun written = MatchOption written ⊤ (λ r. HasWritten (λ _. None) r [])
