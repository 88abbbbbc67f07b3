-- Files with one more chapter.
use Rattle.std.proofs.Common.{◌≡◌, ℕ, suc, ◌+◌, List, [], ◌∷◌, ◌++◌, length, map, refl, sym, ap, ◌∙◌, subst, arith, append_assoc, append-nil, length-append}
use Rattle.std.specs.Prelude.{Option}
use Rattle.std.proofs.lemmas.List.{length-map, map-append}
use Rattle.std.proofs.lemmas.List.Concat.{flat_map-append}
use Rattle.xcp_slave.specs.declared.Exchange.{Exchange}
use Rattle.xcp_slave.specs.Run.{Run}
use Rattle.xcp_slave.specs.SlaveValue.{SlaveValue}
use Rattle.xcp_trace.specs.declared.Entry.{Entry}
use Rattle.xcp_trace.specs.EntrySpelling.{entry_in}
use Rattle.xcp_record.specs.declared.roster.Roster.{Roster}
use Rattle.xcp_record.specs.FileFormat.{chapter_in, file_of, head, with_chapters}
use Rattle.xcp_record.specs.JournalFile.{IsChapter, IsFile, calls_of, exchanges}
use Rattle.xcp_record.specs.Audit.{Differs, Mismatches, Settles}
use Rattle.xcp_record.specs.private.ReadChapter.{IsRead}
use Rattle.xcp_record.proofs.TapeLemmas.{all_more}

one_behind : (before : List ℕ) (n : ℕ) (chapters : List (List (List ℕ))) (strings : List (List ℕ))
    → with_chapters before n (chapters ++ strings ∷ []) ≡ with_chapters before n chapters ++ chapter_in (with_chapters before n chapters) (n + length chapters) strings
one_behind before n [] strings = let e : n + 0 ≡ n = omega arith in rw e refl
one_behind before n (c ∷ chapters) strings =
    let e : n + length (c ∷ chapters) ≡ suc n + length chapters = omega arith in
    rw e (one_behind (before ++ chapter_in before n c) (suc n) chapters strings)

-- a file with no chapter
pub file_begins : (roster : Option Roster) (layout : List ℕ) → IsFile roster layout (head roster layout) []
file_begins roster layout = record { strings = []; whole = refl; each = tt; calls = refl }

-- a file with one more chapter behind it
pub file_more : (roster : Option Roster) (layout bytes more : List ℕ) (chapters : List (List Entry)) (strings : List (List ℕ)) → IsFile roster layout bytes chapters → IsChapter strings
    → more ≡ chapter_in bytes (length chapters) strings → IsFile roster layout (bytes ++ more) (chapters ++ map entry_in strings ∷ [])
file_more roster layout bytes more chapters strings file chapter is =
    let before = file_of roster layout file.strings in
    let number : length chapters ≡ length file.strings = ap length (sym file.calls) ∙ length-map file.strings (λ chapter. map entry_in chapter) in
    let zero_more : length file.strings ≡ 0 + length file.strings = omega arith in
    let whole : bytes ++ more ≡ before ++ chapter_in before (length file.strings) strings =
    ap (λ b. bytes ++ b) (is ∙ ap (λ n. chapter_in bytes n strings) number) ∙ ap (λ b. b ++ chapter_in b (length file.strings) strings) file.whole in
    record {
      strings = file.strings ++ strings ∷ [];
      whole = whole ∙ ap (λ n. before ++ chapter_in before n strings) zero_more ∙ sym (one_behind (head roster layout) 0 file.strings strings);
      each = all_more IsChapter file.strings strings file.each chapter;
      calls = map-append (λ chapter. map entry_in chapter) file.strings (strings ∷ []) ∙ ap (λ cs. cs ++ map entry_in strings ∷ []) file.calls;
    }

-- the calls of chapters, and of one more
pub calls_more : (chapters : List (List Entry)) (calls : List Entry) → calls_of (chapters ++ calls ∷ []) ≡ calls_of chapters ++ calls
calls_more chapters calls = flat_map-append (λ c. c) chapters (calls ∷ []) ∙ ap (λ c. calls_of chapters ++ c) (append-nil calls)

-- one run behind another
pub run_on : (v u w : SlaveValue) (xs ys : List Exchange) → Run v xs u → Run u ys w → Run v (xs ++ ys) w
run_on v u w [] ys first next = subst (λ z. Run z ys w) first next
run_on v u w (x ∷ xs) ys first next = (first.0, first.1, run_on first.0 u w xs ys first.2 next)

-- the calls of one more chapter are a run too
abbrev pub settles_more : (roster : Option Roster) (layout : List ℕ) (v slave w : SlaveValue) (before read calls : List ℕ) (number n count : ℕ) (settled : Settles roster layout v before n)
    → length settled.chapters ≡ number → settled.last ≡ slave → (next : IsRead number before read calls count) → Run slave (exchanges (map entry_in next.strings)) w → Settles roster layout v (before ++ read) (n + count)
settles_more roster layout v slave w before read calls number n count settled numbered at next run = record {
  chapters = settled.chapters ++ map entry_in next.strings ∷ [];
  file = file_more roster layout before read settled.chapters next.strings settled.file next.chapter (next.whole ∙ ap (λ k. chapter_in before k next.strings) (sym numbered));
  last = w;
  run = subst (λ es. Run v (exchanges es) w) (sym (calls_more settled.chapters (map entry_in next.strings)))
      (subst (λ xs. Run v xs w) (sym (map-append (λ (e : Entry). e.exchange) (calls_of settled.chapters) (map entry_in next.strings)))
      (run_on v slave w (exchanges (calls_of settled.chapters)) (exchanges (map entry_in next.strings)) (subst (Run v (exchanges (calls_of settled.chapters))) at settled.run) run));
  count = ap length (calls_more settled.chapters (map entry_in next.strings))
      ∙ length-append (calls_of settled.chapters) (map entry_in next.strings)
      ∙ (let a = settled.count in let b = length-map next.strings entry_in in let c = next.size in omega (arith, a, b, c));
}

-- a call of one more chapter is the first that differs
pub mismatch_more : (roster : Option Roster) (layout : List ℕ) (v slave : SlaveValue) (before read calls : List ℕ) (number n count i : ℕ) (settled : Settles roster layout v before n)
    → length settled.chapters ≡ number → settled.last ≡ slave → (next : IsRead number before read calls count) → Differs slave (map entry_in next.strings) i → Mismatches roster layout v (before ++ read) (n + i)
mismatch_more roster layout v slave before read calls number n count i settled numbered at next differs =
    let last = map entry_in next.strings in
    let front = calls_of settled.chapters in record {
      chapters = settled.chapters ++ last ∷ [];
      file = file_more roster layout before read settled.chapters next.strings settled.file next.chapter (next.whole ∙ ap (λ k. chapter_in before k next.strings) (sym numbered));
      differs = record {
        earlier = front ++ differs.earlier;
        call = differs.call;
        later = differs.later;
        joined = calls_more settled.chapters last ∙ (ap (λ c. front ++ c) differs.joined ∙ sym (append_assoc front differs.earlier (differs.call ∷ differs.later)));
        place = length-append front differs.earlier ∙ (let a = settled.count in let b = differs.place in omega (arith, a, b));
        slave = differs.slave;
        run = subst (λ xs. Run v xs differs.slave) (sym (map-append (λ (e : Entry). e.exchange) front differs.earlier))
            (run_on v slave differs.slave (exchanges front) (exchanges differs.earlier) (subst (Run v (exchanges front)) at settled.run) differs.run);
        other = differs.other;
      };
    }
