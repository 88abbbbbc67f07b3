-- Of a file that holds a run an audit can say nothing else than that it is settled.
use Rattle.std.proofs.Common.{inl, inr, ◌≡◌, ◌≤◌, ◌<◌, ℕ, suc, ◌+◌, List, [], ◌∷◌, ◌++◌, length, map, refl, sym, ap, ◌∙◌, subst, arith, append_assoc, append-nil, length-append}
use Rattle.std.specs.Prelude.{IfSome, Option, Some, None, Result, Ok, Err}
use Rattle.std.specs.Io.KnownBytes.{Consumes, IsAtEnd}
use Rattle.std.specs.List.{AllByRecursion}
use Rattle.std.proofs.lemmas.List.{map-append}
use Rattle.std.proofs.lemmas.List.Concat.{flat_map-append}
use Rattle.sha2.specs.Sha256.{sha256}
use Rattle.xcp_slave.specs.declared.Request.{Request}
use Rattle.xcp_slave.specs.Outcomes.{Answer}
use Rattle.xcp_slave.specs.declared.Exchange.{Exchange}
use Rattle.xcp_slave.specs.Run.{Run}
use Rattle.xcp_slave.specs.SlaveValue.{SlaveValue}
use Rattle.xcp_slave.specs.Step.{Answers}
use Rattle.xcp_trace.specs.declared.Entry.{Entry}
use Rattle.xcp_trace.specs.EntrySpelling.{entry_in}
use Rattle.xcp_trace.specs.Tape.{spelt}
use Rattle.xcp_record.specs.declared.fault.AuditFault.{AuditFault}
use Rattle.xcp_record.specs.declared.fault.AuditFault.TheVariants as faults
use Rattle.xcp_record.specs.declared.ending.FileEnding.{FileEnding}
use Rattle.xcp_record.specs.declared.ending.FileEnding.TheVariants as endings
use Rattle.xcp_record.specs.declared.ending.Settled.{Settled}
use Rattle.xcp_record.specs.declared.roster.Roster.{Roster}
use Rattle.xcp_record.specs.FileFormat.{chapter_bytes, chapter_head, chapter_in, ending_in, head, mark_in, size_in}
use Rattle.xcp_record.specs.JournalFile.{EndsInside, IsChapter, IsNoPart, IsWholeFile, calls_of, exchanges}
use Rattle.xcp_record.specs.Audit.{Audits, Differs, HoldsRun, IsForeign, SaysSettled, SettlesUpTo}
use Rattle.xcp_record.proofs.TapeLemmas.{append_same, nothing}
use Rattle.xcp_record.proofs.FormatLemmas.{chapter_short, head_length, sha256_length, size_front}
use Rattle.xcp_record.proofs.MarkLemmas.{no_ending_inside}
use Rattle.xcp_record.proofs.ReadBackLemmas.{GoesOn, behind, file_goes_on_as, one_layout, read_back_whole, same_named, whole_begins}

abbrev Single : Type 0
Single = (v : SlaveValue) (q : Request) (a b : Answer) (w u : SlaveValue) → Answers v q a w → Answers v q b u → (a ≡ b) × (w ≡ u)

run_splits : (v w : SlaveValue) (xs ys : List Exchange) → Run v (xs ++ ys) w → (mid : SlaveValue) × Run v xs mid × Run mid ys w
run_splits v w [] ys run = (v, refl, run)
run_splits v w (x ∷ xs) ys run = let more = run_splits run.0 w xs ys run.2 in (more.0, (run.0, run.1, more.1), more.2)

runs_meet : Single → (v u w : SlaveValue) (xs : List Exchange) → Run v xs u → Run v xs w → u ≡ w
runs_meet single v u w [] a b = a ∙ sym b
runs_meet single v u w (x ∷ xs) a b =
    let same = (single v x.request x.answer x.answer a.0 b.0 a.1 b.1).1 in
    runs_meet single b.0 u w xs (subst (λ z. Run z xs u) same a.2) b.2

-- in a run no call differs
runs_agree : Single → (v w : SlaveValue) (calls more : List Entry) (i : ℕ) → Differs v calls i → Run v (exchanges (calls ++ more)) w → ⊥
runs_agree single v w calls more i differs run =
    let after = differs.call ∷ (differs.later ++ more) in
    let all : calls ++ more ≡ differs.earlier ++ after = ap (λ c. c ++ more) differs.joined ∙ append_assoc differs.earlier (differs.call ∷ differs.later) more in
    let split = run_splits v w (exchanges differs.earlier) (exchanges after) (subst (λ xs. Run v xs w) (ap exchanges all ∙ map-append (λ (e : Entry). e.exchange) differs.earlier after) run) in
    let same = runs_meet single v split.0 differs.slave (exchanges differs.earlier) split.1 differs.run in
    differs.other split.2.0 (subst (λ z. Answers z differs.call.exchange.request differs.call.exchange.answer split.2.0) same split.2.1)

ends_not : (rest : List ℕ) (size : ℕ) → size_in rest ≡ size → 48 + size ≤ length rest → EndsInside rest → ⊥
ends_not rest size is long (inl few) = absurd (omega (arith, long, few))
ends_not rest size is long (inr few) = absurd (omega (arith, is, long, few))

-- nor is the file of a run cut
not_cut : (other : List ℕ) (m : ℕ) (ending : FileEnding) (before rest : List ℕ) (n : ℕ) (tail : List (List (List ℕ))) → AllByRecursion IsChapter tail → rest ≡ behind before n tail ++ ending_in other m ending
    → 0 < length rest → EndsInside rest → ⊥
not_cut other m ending before rest n [] each h some ends = no_ending_inside other rest m ending h some ends
not_cut other m ending before rest n (t ∷ tail) each h some ends =
    let first = chapter_head n (length t) (length (spelt t)) in
    let sum = sha256 (before ++ chapter_bytes n t) in
    let others = behind (before ++ chapter_in before n t) (suc n) tail in
    let more = others ++ ending_in other m ending in
    let short = chapter_short t each.0 in
    let split : rest ≡ first ++ (spelt t ++ (sum ++ more)) = h ∙ append_assoc (chapter_in before n t) others (ending_in other m ending) ∙ append_assoc (first ++ spelt t) sum more ∙ append_assoc first (spelt t) (sum ++ more) in
    let size : size_in rest ≡ length (spelt t) = ap size_in split ∙ size_front n (length t) (length (spelt t)) (spelt t ++ (sum ++ more)) (omega (arith, short)) in
    let a = ap length split in
    let b = length-append first (spelt t ++ (sum ++ more)) in
    let c = length-append (spelt t) (sum ++ more) in
    let d = length-append sum more in
    let e = head_length n (length t) (length (spelt t)) in
    let f = sha256_length (before ++ chapter_bytes n t) in
    ends_not rest (length (spelt t)) size (omega (arith, a, b, c, d, e, f)) ends

-- nor altered
not_altered : (other : List ℕ) (m k : ℕ) (ending : FileEnding) (before rest left : List ℕ) (n : ℕ) (tail : List (List (List ℕ))) → AllByRecursion IsChapter tail
    → rest ++ left ≡ behind before n tail ++ ending_in other m ending → (tail ≡ [] → (other ≡ before) × (m ≡ k)) → IsNoPart k n before rest → ⊥
not_altered other m k endings.Open before rest left n [] each h same none =
    let e = ap length h ∙ refl in
    let l = length-append rest left in
    let no : rest ≡ [] = nothing rest (omega (arith, e, l)) in
    none.0 [] (chapter_in before n []) (record { each = tt; few = omega arith }) ([], append-nil (chapter_in before n []) ∙ ap (λ b. b ++ chapter_in before n []) (sym no))
not_altered other m k endings.Ended before rest left n [] each h same none =
    none.1 left (h ∙ ap (λ b. mark_in b m) (same refl).0 ∙ ap (mark_in before) (same refl).1)
not_altered other m k ending before rest left n (t ∷ tail) each h same none =
    let others = behind (before ++ chapter_in before n t) (suc n) tail in
    none.0 t left each.0 (others ++ ending_in other m ending, sym (h ∙ append_assoc (chapter_in before n t) others (ending_in other m ending)))

-- behind the last chapter stands the ending alone
nothing_more : (before rest other end : List ℕ) (n : ℕ) (tail : List (List (List ℕ))) → before ++ rest ≡ other ++ end → rest ≡ behind before n tail ++ end → tail ≡ [] → other ≡ before
nothing_more before rest other end n tail whole h none =
    let is : rest ≡ end = h ∙ ap (λ t. behind before n t ++ end) none in
    let same : before ++ end ≡ other ++ end = ap (λ r. before ++ r) (sym is) ∙ whole in
    let e = ap length same in
    let a = length-append before end in
    let b = length-append other end in
    sym (append_same before other end end (omega (arith, e, a, b)) same).0

-- nor foreign
not_foreign : (roster : Option Roster) (layout read left more : List ℕ) → length layout ≡ 32 → read ++ left ≡ head roster layout ++ more → IsForeign (left ≡ []) read → ⊥
not_foreign roster layout read left more is h foreign = foreign.1 roster layout left is (λ end. end) (more, sym h)

-- the file that holds a run
abbrev whole_of : (roster : Option Roster) (layout all bytes : List ℕ) (v : SlaveValue) (n : ℕ) (ending : FileEnding) (holds : HoldsRun roster layout v all n ending) → bytes ≡ all → IsWholeFile roster layout bytes holds.holds.settled.chapters ending
whole_of roster layout all bytes v n ending holds same =
    let before = holds.holds.before in
    record { before = before; file = holds.holds.settled.file; whole = same ∙ holds.holds.whole ∙ ap (λ k. before ++ ending_in before k ending) (sym holds.holds.settled.count) }

up_to : (roster : Option Roster) (layout all read left : List ℕ) (v : SlaveValue) (m : ℕ) (why : ℕ → List ℕ → List ℕ → Type 0) → all ≡ read ++ left → (up : SettlesUpTo roster layout v read m why) → up.before ++ (up.rest ++ left) ≡ all
up_to roster layout all read left v m why h up = sym (h ∙ ap (λ b. b ++ left) up.joined ∙ append_assoc up.before up.rest left)

from_front : (found roster : Option Roster) (layout all read left : List ℕ) (v : SlaveValue) (n m : ℕ) (ending : FileEnding) (why : ℕ → List ℕ → List ℕ → Type 0) → length layout ≡ 32 → (holds : HoldsRun roster layout v all n ending) → all ≡ read ++ left
    → (up : SettlesUpTo found layout v read m why) → GoesOn up.before (up.rest ++ left) up.settled.chapters holds.holds.settled.chapters holds.holds.before ending
from_front found roster layout all read left v n m ending why is holds h up =
    file_goes_on_as found roster layout up.before (up.rest ++ left) up.settled.chapters holds.holds.settled.chapters ending is up.settled.file
    (whole_of roster layout all (up.before ++ (up.rest ++ left)) v n ending holds (up_to found layout all read left v m why h up))

-- of a file that holds a run an audit says that it is settled, and how it ends, unless a read failed or no memory was left
pub exact : Single → (found roster : Option Roster) (layout all read left : List ℕ) (v : SlaveValue) (n : ℕ) (ending : FileEnding) (result : Result Settled AuditFault) → length layout ≡ 32 → all ≡ read ++ left → HoldsRun roster layout v all n ending
    → Audits found layout v (left ≡ []) read result → SaysSettled n ending result
exact single found roster layout all read left v n ending (Ok s) is h holds said =
    let whole : all ≡ read = h ∙ ap (λ b. read ++ b) said.0 ∙ append-nil read in
    let to = said.1 in
    let first : IsWholeFile found layout read to.settled.chapters s.ending =
    record { before = to.before; file = to.settled.file; whole = to.whole ∙ ap (λ k. to.before ++ ending_in to.before k s.ending) (sym to.settled.count) } in
    let held = whole_of roster layout all read v n ending holds (sym whole) in
    let one = sym (same_named found roster layout layout read to.settled.chapters holds.holds.settled.chapters s.ending ending is is first held).1 in
    let same = read_back_whole roster layout read to.settled.chapters holds.holds.settled.chapters s.ending ending (subst (λ r. IsWholeFile r layout read to.settled.chapters s.ending) one first) held in
    (sym to.settled.count ∙ ap (λ cs. length (calls_of cs)) same.0 ∙ holds.holds.settled.count, sym same.1)
exact single found roster layout all read left v n ending (Err (faults.Mismatch i)) is h holds said =
    let chapters = holds.holds.settled.chapters in
    let on = file_goes_on_as found roster layout read left said.chapters chapters ending is said.file (whole_of roster layout all (read ++ left) v n ending holds (sym h)) in
    let tail = map (λ chapter. map entry_in chapter) on.tail in
    let calls : calls_of chapters ≡ calls_of said.chapters ++ calls_of tail = ap calls_of on.joined ∙ flat_map-append (λ c. c) said.chapters tail in
    runs_agree single v holds.holds.settled.last (calls_of said.chapters) (calls_of tail) i said.differs (subst (λ cs. Run v (exchanges cs) holds.holds.settled.last) calls holds.holds.settled.run)
exact single found roster layout all read left v n ending (Err (faults.Cut m)) is h holds said =
    let up = said.1 in
    let on = from_front found roster layout all read left v n m ending _ is holds h up in
    let rest : up.rest ++ left ≡ up.rest = ap (λ b. up.rest ++ b) said.0 ∙ append-nil up.rest in
    not_cut holds.holds.before (length (calls_of holds.holds.settled.chapters)) ending up.before up.rest (length up.settled.chapters) on.tail on.each (sym rest ∙ on.bytes) up.why.0 up.why.1
exact single found roster layout all read left v n ending (Err (faults.Altered m)) is h holds said =
    let on = from_front found roster layout all read left v n m ending _ is holds h said in
    let other = holds.holds.before in
    let calls = length (calls_of holds.holds.settled.chapters) in
    let whole = whole_of roster layout all (said.before ++ (said.rest ++ left)) v n ending holds (up_to found layout all read left v m _ h said) in
    not_altered other calls m ending said.before said.rest left (length said.settled.chapters) on.tail on.each on.bytes
    (λ none. (
      nothing_more said.before (said.rest ++ left) other (ending_in other calls ending) (length said.settled.chapters) on.tail whole.whole on.bytes none,
      ap (λ cs. length (calls_of cs)) (on.joined ∙ ap (λ t. said.settled.chapters ++ map (λ chapter. map entry_in chapter) t) none ∙ append-nil said.settled.chapters) ∙ said.settled.count,
    )) said.why
exact single found roster layout all read left v n ending (Err (faults.TooLong m)) is h holds said =
    let on = from_front found roster layout all read left v n m ending _ is holds h said in
    let a = ap length on.joined in
    let b = length-append said.settled.chapters (map (λ chapter. map entry_in chapter) on.tail) in
    let few = holds.few in
    let many = said.why in
    absurd (omega (arith, a, b, few, many))
exact single found roster layout all read left v n ending (Err faults.OtherLayout) is h holds said =
    absurd (said.2 (sym (one_layout roster found layout said.0 read left holds.holds.settled.chapters ending is said.1 (whole_of roster layout all (read ++ left) v n ending holds (sym h)) said.3)))
exact single found roster layout all read left v n ending (Err faults.Foreign) is h holds said =
    absurd (not_foreign roster layout read left _ is (sym h ∙ whole_begins roster layout all holds.holds.settled.chapters ending (whole_of roster layout all all v n ending holds refl)) said)
exact single found roster layout all read left v n ending (Err faults.Read) is h holds said = tt
exact single found roster layout all read left v n ending (Err faults.Memory) is h holds said = tt

-- the same of a reader whose bytes are known
pub settles_known : Single → (old new : Option (List ℕ)) (found : Option Roster) (layout read : List ℕ) (v : SlaveValue) (result : Result Settled AuditFault) → length layout ≡ 32 → Consumes old new read
    → Audits found layout v (IsAtEnd new) read result → IfSome old (λ all. (roster : Option Roster) (n : ℕ) (ending : FileEnding) → HoldsRun roster layout v all n ending → SaysSettled n ending result)
settles_known single None new found layout read v result is consumed said = tt
settles_known single (Some all) None found layout read v result is consumed said = absurd consumed
settles_known single (Some all) (Some left) found layout read v result is consumed said = λ roster n ending holds. exact single found roster layout all read left v n ending result is consumed holds said
