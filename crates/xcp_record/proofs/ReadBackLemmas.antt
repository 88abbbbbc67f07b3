-- A file has one list of chapters, and of a longer file the front has the first of its chapters.
use Rattle.std.proofs.Common.{◌≡◌, ℕ, suc, ◌+◌, List, [], ◌∷◌, ◌++◌, length, map, refl, sym, ap, ◌∙◌, subst, arith, append_assoc, append-nil}
use Rattle.std.specs.Prelude.{Option}
use Rattle.std.specs.List.{AllByRecursion}
use Rattle.std.proofs.lemmas.List.{length-map, map-append}
use Rattle.sha2.specs.Sha256.{sha256}
use Rattle.xcp_trace.specs.declared.Entry.{Entry}
use Rattle.xcp_trace.specs.EntrySpelling.{entry_in}
use Rattle.xcp_trace.specs.Tape.{spelt}
use mathlib.Core.List.{IsPrefix}
use Rattle.xcp_record.specs.declared.ending.FileEnding.{FileEnding}
use Rattle.xcp_record.specs.declared.ending.FileEnding.TheVariants as endings
use Rattle.xcp_record.specs.declared.roster.Roster.{Roster}
use Rattle.xcp_record.specs.FileFormat.{chapter_bytes, chapter_head, chapter_in, ending_in, head, with_chapters}
use Rattle.xcp_record.specs.JournalFile.{IsChapter, IsFile, IsWholeFile, calls_of}
use Rattle.xcp_record.proofs.MarkLemmas.{ending_not_begun, one_ending}
use Rattle.xcp_record.proofs.TapeLemmas.{append_same, spelt_same}
use Rattle.xcp_record.proofs.FormatLemmas.{chapter_short, head_length, parts_are, sha256_length, size_again}
use Rattle.xcp_record.proofs.HeadLemmas.{same_head}

-- what chapters add to the bytes before
abbrev pub behind : List ℕ → ℕ → List (List (List ℕ)) → List ℕ
behind before n [] = []
behind before n (c ∷ chapters) = chapter_in before n c ++ behind (before ++ chapter_in before n c) (suc n) chapters

-- bytes with chapters behind them are these bytes, and then what the chapters add
pub grows : (before : List ℕ) (n : ℕ) (chapters : List (List (List ℕ))) → with_chapters before n chapters ≡ before ++ behind before n chapters
grows before n [] = sym (append-nil before)
grows before n (c ∷ chapters) = grows (before ++ chapter_in before n c) (suc n) chapters ∙ append_assoc before (chapter_in before n c) (behind (before ++ chapter_in before n c) (suc n) chapters)

-- the first chapter of bytes is one alone
chapter_same : (before : List ℕ) (n : ℕ) (s t : List (List ℕ)) (x y : List ℕ) → IsChapter s → IsChapter t → chapter_in before n s ++ x ≡ chapter_in before n t ++ y → (s ≡ t) × (x ≡ y)
chapter_same before n s t x y is_s is_t h =
    let first = chapter_head n (length t) (length (spelt t)) in
    let sum = sha256 (before ++ chapter_bytes n t) in
    let short = chapter_short t is_t in
    let front : IsPrefix (chapter_in before n s) ((first ++ spelt t ++ sum) ++ y) = (x, h) in
    let parts = parts_are before n s first (spelt t) sum y (head_length _ _ _) (sym (size_again n (length t) (length (spelt t)) (omega (arith, short)))) (sha256_length _) is_s front in
    let same = spelt_same s t parts.1 in
    (same, (append_same (chapter_in before n t) (chapter_in before n t) x y refl (ap (λ c. chapter_in before n c ++ x) (sym same) ∙ h)).1)

-- of the chapters of a longer file the front has the first, whatever ends the file
pub front_has : (other : List ℕ) (m : ℕ) (ending : FileEnding) (before : List ℕ) (n : ℕ) (ts ss : List (List (List ℕ))) (rest : List ℕ) → AllByRecursion IsChapter ts → AllByRecursion IsChapter ss
    → behind before n ts ++ rest ≡ behind before n ss ++ ending_in other m ending
    → (tail : List (List (List ℕ))) × (ss ≡ ts ++ tail) × AllByRecursion IsChapter tail × (rest ≡ behind (before ++ behind before n ts) (n + length ts) tail ++ ending_in other m ending)
front_has other m ending before n [] ss rest all each h =
    let e : n + 0 ≡ n = omega arith in
    (ss, refl, each, h ∙ ap (λ k. behind before k ss ++ ending_in other m ending) (sym e) ∙ ap (λ b. behind b (n + 0) ss ++ ending_in other m ending) (sym (append-nil before)))
front_has other m ending before n (t ∷ ts) [] rest all each h =
    absurd (ending_not_begun before other n m ending t _ all.0 (sym (append_assoc (chapter_in before n t) (behind (before ++ chapter_in before n t) (suc n) ts) rest) ∙ h))
front_has other m ending before n (t ∷ ts) (s ∷ ss) rest all each h =
    let next = before ++ chapter_in before n t in
    let end = ending_in other m ending in
    let both = chapter_same before n t s (behind next (suc n) ts ++ rest) (behind (before ++ chapter_in before n s) (suc n) ss ++ end) all.0 each.0
    (sym (append_assoc (chapter_in before n t) (behind next (suc n) ts) rest) ∙ h ∙ append_assoc (chapter_in before n s) (behind (before ++ chapter_in before n s) (suc n) ss) end) in
    let more = front_has other m ending next (suc n) ts ss rest all.1 each.1 (both.1 ∙ ap (λ c. behind (before ++ chapter_in before n c) (suc n) ss ++ end) (sym both.0)) in
    let e : suc n + length ts ≡ n + length (t ∷ ts) = omega arith in
    let b : next ++ behind next (suc n) ts ≡ before ++ behind before n (t ∷ ts) = append_assoc before (chapter_in before n t) (behind next (suc n) ts) in (
      more.0,
      ap (λ c. c ∷ ss) (sym both.0) ∙ ap (λ cs. t ∷ cs) more.1,
      more.2,
      more.3 ∙ ap (λ k. behind (next ++ behind next (suc n) ts) k more.0 ++ end) e ∙ ap (λ z. behind z (n + length (t ∷ ts)) more.0 ++ end) b,
    )

-- Of a file the front that is a file too has the first of its chapters, and the rest has the others, and the ending.
pub record GoesOn (before rest : List ℕ) (first all : List (List Entry)) (whole : List ℕ) (ending : FileEnding) : Type 0 where
  pub tail : List (List (List ℕ))
  pub joined : all ≡ first ++ map (λ chapter. map entry_in chapter) tail
  pub each : AllByRecursion IsChapter tail
  pub bytes : rest ≡ behind before (length first) tail ++ ending_in whole (length (calls_of all)) ending

-- a whole file goes on so behind a front that is a file
pub file_goes_on : (roster : Option Roster) (layout before rest : List ℕ) (first all : List (List Entry)) (ending : FileEnding) → IsFile roster layout before first → (whole : IsWholeFile roster layout (before ++ rest) all ending)
    → GoesOn before rest first all whole.before ending
file_goes_on roster layout before rest first all ending front whole =
    let h = head roster layout in
    let file = whole.file in
    let m = length (calls_of all) in
    let end = ending_in whole.before m ending in
    let start : before ≡ h ++ behind h 0 front.strings = front.whole ∙ grows h 0 front.strings in
    let same : h ++ (behind h 0 front.strings ++ rest) ≡ h ++ (behind h 0 file.strings ++ end) =
    sym (append_assoc h (behind h 0 front.strings) rest) ∙ ap (λ b. b ++ rest) (sym start) ∙ whole.whole ∙ ap (λ b. b ++ end) (file.whole ∙ grows h 0 file.strings) ∙ append_assoc h (behind h 0 file.strings) end in
    let found = front_has whole.before m ending h 0 front.strings file.strings rest front.each file.each (append_same h h _ _ refl same).1 in
    let zero_more : 0 + length front.strings ≡ length front.strings = omega arith in
    let number : 0 + length front.strings ≡ length first = zero_more ∙ sym (length-map front.strings (λ chapter. map entry_in chapter)) ∙ ap length front.calls in
    record {
      tail = found.0;
      joined = sym file.calls ∙ ap (λ cs. map (λ chapter. map entry_in chapter) cs) found.1 ∙ map-append (λ chapter. map entry_in chapter) front.strings found.0 ∙ ap (λ cs. cs ++ map (λ chapter. map entry_in chapter) found.0) front.calls;
      each = found.2;
      bytes = found.3 ∙ ap (λ k. behind (h ++ behind h 0 front.strings) k found.0 ++ end) number ∙ ap (λ b. behind b (length first) found.0 ++ end) (sym start);
    }

-- no chapter is an ending
pub nothing_behind : (first second : List ℕ) (k m : ℕ) (a b : FileEnding) (before : List ℕ) (n : ℕ) (tail : List (List (List ℕ))) → AllByRecursion IsChapter tail
    → ending_in first k a ≡ behind before n tail ++ ending_in second m b → (tail ≡ []) × (b ≡ a)
nothing_behind first second k m a b before n [] each h = (refl, one_ending first second k m a b h)
nothing_behind first second k m a b before n (t ∷ tail) each h =
    absurd (ending_not_begun before first n k a t _ each.0 (sym (append_assoc (chapter_in before n t) (behind (before ++ chapter_in before n t) (suc n) tail) (ending_in second m b)) ∙ sym h))

-- the same bytes are the same file
abbrev pub moved : (roster : Option Roster) (layout bytes other : List ℕ) (cs : List (List Entry)) (ending : FileEnding) → other ≡ bytes → IsWholeFile roster layout bytes cs ending → IsWholeFile roster layout other cs ending
moved roster layout bytes other cs ending same whole = record { before = whole.before; file = whole.file; whole = same ∙ whole.whole }

-- a file has one list of chapters, and one ending
pub read_back_whole : (roster : Option Roster) (layout bytes : List ℕ) (cs ds : List (List Entry)) (a b : FileEnding) → IsWholeFile roster layout bytes cs a → IsWholeFile roster layout bytes ds b → (cs ≡ ds) × (b ≡ a)
read_back_whole roster layout bytes cs ds a b first second =
    let k = length (calls_of cs) in
    let more = file_goes_on roster layout first.before (ending_in first.before k a) cs ds b first.file (moved roster layout bytes (first.before ++ ending_in first.before k a) ds b (sym first.whole) second) in
    let none = nothing_behind first.before second.before k (length (calls_of ds)) a b first.before (length cs) more.tail more.each more.bytes in
    (sym (more.joined ∙ ap (λ t. cs ++ map (λ chapter. map entry_in chapter) t) none.0 ∙ append-nil cs), none.1)

-- a file without an end mark is whole
pub open_whole : (roster : Option Roster) (layout bytes : List ℕ) (cs : List (List Entry)) → IsFile roster layout bytes cs → IsWholeFile roster layout bytes cs endings.Open
open_whole roster layout bytes cs file = record { before = bytes; file = file; whole = sym (append-nil bytes) }

-- a file without an end mark has one list of chapters
pub read_back : (roster : Option Roster) (layout bytes : List ℕ) (cs ds : List (List Entry)) → IsFile roster layout bytes cs → IsFile roster layout bytes ds → cs ≡ ds
read_back roster layout bytes cs ds first second =
    (read_back_whole roster layout bytes cs ds endings.Open endings.Open (open_whole roster layout bytes cs first) (open_whole roster layout bytes ds second)).0

-- a whole file begins with its head
abbrev whole_behind : (roster : Option Roster) (layout bytes : List ℕ) (cs : List (List Entry)) (ending : FileEnding) → IsWholeFile roster layout bytes cs ending → List ℕ
whole_behind roster layout bytes cs ending whole = behind (head roster layout) 0 whole.file.strings ++ ending_in whole.before (length (calls_of cs)) ending

-- its bytes are its head, with its chapters and its ending behind it
pub whole_begins : (roster : Option Roster) (layout bytes : List ℕ) (cs : List (List Entry)) (ending : FileEnding) (whole : IsWholeFile roster layout bytes cs ending) → bytes ≡ head roster layout ++ whole_behind roster layout bytes cs ending whole
whole_begins roster layout bytes cs ending whole =
    let end = ending_in whole.before (length (calls_of cs)) ending in
    whole.whole ∙ ap (λ b. b ++ end) (whole.file.whole ∙ grows (head roster layout) 0 whole.file.strings) ∙ append_assoc (head roster layout) (behind (head roster layout) 0 whole.file.strings) end

-- and one layout, and one roster or none
pub same_layout : (r q : Option Roster) (a b bytes : List ℕ) (cs ds : List (List Entry)) → length a ≡ 32 → length b ≡ 32 → IsFile r a bytes cs → IsFile q b bytes ds → (b ≡ a) × (q ≡ r)
same_layout r q a b bytes cs ds is_a is_b first second =
    let whole : head r a ++ behind (head r a) 0 first.strings ≡ head q b ++ behind (head q b) 0 second.strings =
    sym (grows (head r a) 0 first.strings) ∙ sym first.whole ∙ second.whole ∙ grows (head q b) 0 second.strings in
    let same = same_head r q a b _ _ is_a is_b whole in
    (sym same.0, sym same.1)

-- that of its head
pub one_layout : (r q : Option Roster) (a b bytes rest : List ℕ) (cs : List (List Entry)) (ending : FileEnding) → length a ≡ 32 → length b ≡ 32 → IsWholeFile r a (bytes ++ rest) cs ending → bytes ≡ head q b → a ≡ b
one_layout r q a b bytes rest cs ending is_a is_b whole h =
    (same_head r q a b _ rest is_a is_b (sym (ap (λ z. z ++ rest) (sym h) ∙ whole_begins r a (bytes ++ rest) cs ending whole))).0

-- of two whole files, too
pub same_named : (r q : Option Roster) (a b bytes : List ℕ) (cs ds : List (List Entry)) (end other : FileEnding) → length a ≡ 32 → length b ≡ 32 → IsWholeFile r a bytes cs end → IsWholeFile q b bytes ds other → (b ≡ a) × (q ≡ r)
same_named r q a b bytes cs ds end other is_a is_b first second =
    let same = same_head r q a b _ _ is_a is_b (sym (whole_begins r a bytes cs end first) ∙ whole_begins q b bytes ds other second) in
    (sym same.0, sym same.1)

-- and the roster of its front
one_roster : (found roster : Option Roster) (layout before rest : List ℕ) (first all : List (List Entry)) (ending : FileEnding) → length layout ≡ 32 → IsFile found layout before first → IsWholeFile roster layout (before ++ rest) all ending → found ≡ roster
one_roster found roster layout before rest first all ending is front whole =
    let more = behind (head found layout) 0 front.strings in
    let start : before ++ rest ≡ head found layout ++ (more ++ rest) = ap (λ b. b ++ rest) (front.whole ∙ grows (head found layout) 0 front.strings) ∙ append_assoc (head found layout) more rest in
    (same_head found roster layout layout (more ++ rest) _ is is (sym start ∙ whole_begins roster layout (before ++ rest) all ending whole)).1

-- so it goes on with that
pub file_goes_on_as : (found roster : Option Roster) (layout before rest : List ℕ) (first all : List (List Entry)) (ending : FileEnding) → length layout ≡ 32 → IsFile found layout before first
    → (whole : IsWholeFile roster layout (before ++ rest) all ending) → GoesOn before rest first all whole.before ending
file_goes_on_as found roster layout before rest first all ending is front whole =
    subst (λ q. (w : IsWholeFile q layout (before ++ rest) all ending) → GoesOn before rest first all w.before ending) (one_roster found roster layout before rest first all ending is front whole)
    (λ w. file_goes_on found layout before rest first all ending front w) whole
