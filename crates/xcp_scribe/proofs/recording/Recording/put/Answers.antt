use Rattle.std.proofs.Common.{◌≡◌, ◌<◌, ◌⊎◌, ℕ, arith, inl, inr, ◌∙◌, List, [], ◌∷◌, ◌++◌, refl, sym, ap, subst, append_assoc, true≢false}
use Rattle.std.specs.Prelude.{Bool, true, false, Result, Ok, Err, Option, None, Some, is_some}
use Rattle.xcp_record.specs.FileFormat.{last_chapter}
use Rattle.xcp_record.specs.Recording.{StopsInside}
use Rattle.xcp_record.specs.declared.fault.RecordFault.{RecordFault}
use Rattle.xcp_record.specs.declared.fault.RecordFault.TheVariants.{Memory, Number, Stopped, Write}
use Rattle.xcp_record.specs.declared.recorder.Recorder.{Recorder}
use Rattle.xcp_trace.specs.declared.Entry.{Entry}
use Rattle.xcp_scribe.specs.Scribing.{IsFaulty}
use Rattle.xcp_scribe.specs.declared.recording.Recording.{Recording}
use Rattle.xcp_scribe.proofs.recording.Recording.put.Goals as goal

some_is_none : {A : Type 0} (x : A) → Some x ≡ None → ⊥
some_is_none x e = true≢false (ap is_some e)

none_of : {A : Type 0} (o : Option A) → is_some o ≡ false → o ≡ None
none_of None e = refl
none_of (Some x) e = absurd (true≢false e)

-- a fault is none of these
not_none : {W : Type 0} (r : Recording W) → IsFaulty r → r.fault ≡ None → ⊥
not_none r (inl write) none = some_is_none _ (sym write.0 ∙ none)
not_none r (inr other) none = elim other.1 [ inl memory ↦ some_is_none _ (sym memory ∙ none) | inr number ↦ some_is_none _ (sym number.0 ∙ none) ]

abbrev is_write : RecordFault → Bool
is_write Write = true
is_write fault = false

abbrev fault_in : {A : Type 0} → Result A RecordFault → RecordFault
fault_in (Ok x) = Write
fault_in (Err fault) = fault

-- its first one
first_fault : {W : Type 0} (r : Recording W) (f : RecordFault) → r.fault ≡ Some f → (f ≡ Write → r.recorder.writer.failures ≡ 1) → ((f ≡ Write → ⊥) → r.recorder.writer.failures ≡ 0) → (f ≡ Number → last_chapter < r.recorder.chapters) → (f ≡ Stopped → ⊥) → IsFaulty r
first_fault r Memory is write other number stopped = inr (other (λ e. true≢false (sym (ap is_write e))), inl is)
first_fault r Write is write other number stopped = inl (is, write refl)
first_fault r Number is write other number stopped = inr (other (λ e. true≢false (sym (ap is_write e))), inr (is, number refl))
first_fault r Stopped is write other number stopped = absurd (stopped refl)

-- chapters are numbered as they come
numbered : (number old new : ℕ) → number ≡ old → new ≡ old → (number ≡ old → ⊥) ⊎ (last_chapter < number) → last_chapter < new
numbered number old new is same (inl other) = absurd (other is)
numbered number old new is same (inr last) = omega (arith, is, same, last)

pub returns-then-is_none : goal.returns-then-is_none
returns-then-is_none g c = λ chapters was. elim was [
  | inl whole ↦ inr (record {
    faulty = first_fault
        (record { recorder = c.append-appended.new.self; layout = c.args.self.now.layout; roster = c.args.self.now.roster; start = c.args.self.now.start; fault = Some c.in-Err.fault })
        c.in-Err.fault refl (λ e. let grown = c.in-Err.ensures.write (ap Err e) in let none = whole.unfailed in omega (arith, grown, none))
        (λ other. c.in-Err.ensures.unfailed (λ e. other (ap fault_in e)) ∙ whole.unfailed)
        (λ e. numbered c.chapters-number.result c.args.self.now.recorder.chapters c.append-appended.new.self.chapters c.chapters-number.ensures c.in-Err.ensures.err.2 (c.in-Err.ensures.number (ap Err e)))
        (λ e. true≢false (sym (c.in-Err.ensures.since (ap Err e)) ∙ whole.going));
    stopped = c.in-Err.ensures.err.0;
    whole = chapters;
    first = (c.args.calls ∷ [], refl);
    calls = c.in-Err.ensures.err.1 ∙ whole.records.called;
    stops = c.in-Err.ensures.front (Some c.args.self.now.roster) c.args.self.now.layout _ chapters whole.records;
  })
  | inr cut ↦ absurd (not_none c.args.self.now cut.faulty (none_of c.args.self.now.fault (c.if-is_none.ensures {u = tt})))
]

pub returns-else-is_none : goal.returns-else-is_none
returns-else-is_none g c = λ chapters was. elim was [
  | inl whole ↦ absurd (true≢false (sym (c.if-is_none.ensures {u = tt}) ∙ ap is_some whole.fine))
  | inr cut ↦
      let same = (c.in-Err.ensures.stopped cut.stopped).1 in
      let start = g.W.Write.contents c.args.self.now.start.value in
      inr (record {
        faulty = subst (λ (r : Recorder _). IsFaulty (record { recorder = r; layout = c.args.self.now.layout; roster = c.args.self.now.roster; start = c.args.self.now.start; fault = c.args.self.now.fault })) (sym same) cut.faulty;
        stopped = ap (λ (r : Recorder _). r.stopped) same ∙ cut.stopped;
        whole = cut.whole;
        first = (cut.first.0 ++ c.args.calls ∷ [], sym (append_assoc cut.whole cut.first.0 (c.args.calls ∷ [])) ∙ ap (λ (l : List (List Entry)). l ++ c.args.calls ∷ []) cut.first.1);
        calls = ap (λ (r : Recorder _). r.calls) same ∙ cut.calls;
        stops = subst (λ (r : Recorder _). StopsInside (Some c.args.self.now.roster) c.args.self.now.layout start (g.W.Write.contents r.writer.inner) cut.whole) (sym same) cut.stops;
      })
]
