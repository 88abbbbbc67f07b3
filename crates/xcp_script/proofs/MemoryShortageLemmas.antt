-- Where memory is short, told of a part of a script and of all of it.
use Rattle.std.proofs.Common.{◌≡◌, ℕ, false, List, [], ◌∷◌, ◌++◌, inl, inr, Option, Some, None, Result, Err, refl, sym, ap, subst, ◌∙◌, append_assoc}
use Rattle.std.proofs.lemmas.Grind.{flat_map-append}
use Rattle.std.proofs.lemmas.List.{map-append}
use Rattle.std.specs.Io.KnownBytes.{Consumes, IsAtEnd}
use Rattle.xcp_slave.specs.declared.Exchange.{Exchange}
use Rattle.xcp_slave.specs.declared.Request.{Request}
use Rattle.xcp_slave.specs.Run.{requests_of}
use Rattle.xcp_script.specs.declared.fault.ReplayError.{ReplayError}
use Rattle.xcp_script.specs.declared.fault.ReplayError.TheVariants as errors
use mathlib.Core.List.{IsPrefix}
use Rattle.xcp_framing.specs.Prefix.{AppendsFront}
use Rattle.xcp_script.specs.Lines.{unless_empty}
use Rattle.xcp_script.specs.private.LineReading.{asked_before, lines_from, OfRead, ShortOf}
use Rattle.xcp_script.specs.Replay.{asked, asked_by, is_faulty, EndsShort, TellsAnswers}
use Rattle.xcp_script.specs.ScriptLine.{meaning}
use Rattle.xcp_script.specs.AnswerText.{answers_text, text_of}
use Rattle.xcp_script.proofs.FrontLemmas.{front_all}
use Rattle.xcp_script.proofs.ScriptProgressLemmas.{Midway}

-- one more request was taken, of those that are asked
pub front_taken : (old new : List Exchange) (x : Exchange) (later : List Request) → new ≡ old ++ x ∷ [] → IsPrefix (requests_of new) (requests_of old ++ x.request ∷ later)
front_taken old new x later e =
    let more : requests_of new ≡ requests_of old ++ x.request ∷ [] = ap requests_of e ∙ map-append (λ (y : Exchange). y.request) old (x ∷ []) in
    (later, ap (λ (qs : List Request). qs ++ later) more ∙ append_assoc (requests_of old) (x.request ∷ []) later)

-- one more answer stands behind the texts of the others
pub kept_more : (old new : List Exchange) (x : Exchange) (text : List ℕ) → new ≡ old ++ x ∷ [] → IsPrefix text (answers_text old) → IsPrefix text (answers_text new)
kept_more old new x text is front = (
  front.0 ++ answers_text (x ∷ []),
  sym (append_assoc text front.0 (answers_text (x ∷ []))) ∙ (ap (λ (t : List ℕ). t ++ answers_text (x ∷ [])) front.1 ∙ sym (ap answers_text is ∙ flat_map-append (λ (y : Exchange). text_of y.answer) old (x ∷ []))),
)

-- a line that isn't faulty asks one request, before those of the lines behind it
pub front_of_line : (new old : List Request) (q : Request) (m : ℕ) (line : List ℕ) (later : List (List ℕ)) → ((more : List Request) → IsPrefix new (old ++ q ∷ more)) → is_faulty (meaning m line) ≡ false → asked_by (meaning m line) ≡ q ∷ [] → IsPrefix new (old ++ asked_before m (line ∷ later))
front_of_line new old q m line later front fine by = rw (fine, by) (front (asked_before m later))

-- the same, told from an earlier place on
pub short_since : (asks asks' : List Request) (old now new : List Exchange) → asks ≡ asks' → ((text : List ℕ) → IsPrefix text (answers_text old) → IsPrefix text (answers_text now)) → ShortOf asks now new → ShortOf asks' old new
short_since asks asks' old now new e k (inl h) = inl (record { next = h.next; more = h.more; joined = sym e ∙ h.joined })
short_since asks asks' old now new e k (inr h) = inr (record { earlier = h.earlier; last = h.last; joined = h.joined; kept = λ text f. h.kept text (k text f) })

-- what was written then
abbrev pub Written : List Exchange → Option (List ℕ) → Option (List ℕ) → Type 0
Written old a b = (text : List ℕ) → IsPrefix (answers_text old) text → AppendsFront a b text

short_ends : (asks asks' : List Request) (old new : List Exchange) (a b : Option (List ℕ)) → asks ≡ asks' → Written old a b → ShortOf asks old new → EndsShort asks' new a b
short_ends asks asks' old new a b e f (inl h) = inl (record { next = h.next; more = h.more; joined = sym e ∙ h.joined })
short_ends asks asks' old new a b e f (inr h) = inr (record { earlier = h.earlier; last = h.last; joined = h.joined; written = f (answers_text h.earlier) (h.kept (answers_text old) (front_all (answers_text old))) })

-- in a piece of the input
pub fed_short : (m limit : ℕ) (i o n : Option (List ℕ)) (chunk line : List ℕ) (count : ℕ) (old new : List Exchange) (a b : Option (List ℕ))
    → m ≡ limit → Midway m i o line count (requests_of old) → Consumes o n chunk
    → ((rest : List ℕ) → ShortOf (requests_of old ++ asked_before m (lines_from line (chunk ++ rest))) old new) → Written old a b
    → OfRead i (λ lines. EndsShort (asked limit lines) new a b)
fed_short m limit None o n chunk line count old new a b l h k s w = tt
fed_short m limit (Some input) None n chunk line count old new a b l h k s w = absurd h
fed_short m limit (Some input) (Some xs) None chunk line count old new a b l h k s w = absurd k
fed_short m limit (Some input) (Some xs) (Some ys) chunk line count old new a b l h k s w =
    subst (λ (n : ℕ). EndsShort (asked n (lines_from [] input)) new a b) l (short_ends _ _ old new a b (rw k at h.0) w (s ys))

-- in the last line
pub last_short : (m limit : ℕ) (i o : Option (List ℕ)) (line : List ℕ) (count : ℕ) (old new : List Exchange) (a b : Option (List ℕ))
    → m ≡ limit → Midway m i o line count (requests_of old) → IsAtEnd o
    → ShortOf (requests_of old ++ asked_before m (unless_empty line)) old new → Written old a b
    → OfRead i (λ lines. EndsShort (asked limit lines) new a b)
last_short m limit None o line count old new a b l h k s w = tt
last_short m limit (Some input) None line count old new a b l h k s w = absurd h
last_short m limit (Some input) (Some xs) line count old new a b l h k s w =
    subst (λ (n : ℕ). EndsShort (asked n (lines_from [] input)) new a b) l (short_ends _ _ old new a b (rw k at h.0) w s)

-- the same error under another type of result
pub memory_as : (A B : Type 0) (e : ReplayError) → ◌≡◌ {A = Result A ReplayError} (Err e) (Err errors.Memory) → ◌≡◌ {A = Result B ReplayError} (Err e) (Err errors.Memory)
memory_as A B (errors.Line k) h = absurd (cc)
memory_as A B errors.Read h = absurd (cc)
memory_as A B errors.Write h = absurd (cc)
memory_as A B errors.Memory h = refl

-- where an allocation failed a front was written
pub memory_tells : (A B : Type 0) (e : ReplayError) (a b : Option (List ℕ)) (t : List ℕ) → ◌≡◌ {A = Result B ReplayError} (Err e) (Err errors.Memory) → TellsAnswers {A = A} (Err e) a b t → AppendsFront a b t
memory_tells A B (errors.Line k) a b t h f = absurd (cc)
memory_tells A B errors.Read a b t h f = absurd (cc)
memory_tells A B errors.Write a b t h f = absurd (cc)
memory_tells A B errors.Memory a b t h f = f
