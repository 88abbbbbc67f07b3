-- What a recorder has written once one more chapter was, or wasn't.
use Rattle.std.proofs.Common.{◌≡◌, ◌≤◌, ℕ, ◌+◌, ◌*◌, List, [], ◌∷◌, ◌++◌, length, refl, sym, ap, ◌∙◌, subst, arith, length-append}
use Rattle.std.specs.Prelude.{Option, Result, Ok, Err, OnErr}
use Rattle.std.specs.Io.KnownBytes.{Appends}
use Rattle.std.proofs.KnownBytes.{Appends-nil, Appends-trans}
use Rattle.std.proofs.lemmas.List.{length-map}
use Rattle.std.specs.Int.{w64, to_le_bytes}
use Rattle.sha2.specs.declared.Sha256.{Sha256}
use Rattle.sha2.specs.Sha256.{sha256}
use Rattle.xcp_trace.specs.declared.Entry.{Entry}
use Rattle.xcp_trace.specs.EntryBytes.{SpellEntries}
use Rattle.xcp_trace.specs.EntrySpelling.{entry_in}
use Rattle.xcp_framing.specs.Prefix.{AppendsFront}
use Rattle.xcp_record.specs.declared.roster.Roster.{Roster}
use Rattle.xcp_record.specs.FileFormat.{chapter_head, chapter_in, mark_in, most_call, most_calls, no_chapter}
use Rattle.xcp_record.specs.JournalFile.{IsFile, calls_of}
use Rattle.xcp_record.specs.Recording.{EndsInOrder, Records, StopsInMark, StopsInside}
use Rattle.xcp_record.specs.private.Calls.{IsSealed}
use Rattle.xcp_record.proofs.FileLemmas.{calls_more, file_more}
use Rattle.xcp_record.proofs.FormatLemmas.{spelt_short}

-- nothing of the next chapter is written
pub stops_here : (roster : Option Roster) (layout : List ℕ) (start now : Option (List ℕ)) (hasher : Sha256) (count calls : ℕ) (chapters : List (List Entry)) → Records roster layout start now hasher count calls chapters → StopsInside roster layout start now chapters
stops_here roster layout start now hasher count calls chapters r = record {
  bytes = r.bytes;
  file = r.file;
  between = now;
  grown = r.grown;
  strings = [];
  front = record { written = []; grown = Appends-nil now; front = (chapter_in r.bytes (length chapters) [], refl) };
}

-- there are as many strings as calls
number_is : (calls : List ℕ) (entries : List Entry) (all : SpellEntries calls entries) → length all.strings ≡ length entries
number_is calls entries all = sym (length-map all.strings entry_in) ∙ ap length all.spells

-- their bytes are no more than a chapter may have
pub calls_short : (calls : List ℕ) (entries : List Entry) → SpellEntries calls entries → length entries ≤ most_calls → length calls ≤ most_call * most_calls
calls_short calls entries all few =
    let short = spelt_short all.strings all.each in
    let number = number_is calls entries all in
    let whole = ap length all.whole in
    omega (arith, short, number, whole, few)

-- the chapter is that of its calls
chapter_is : (number count : ℕ) (before calls chapter : List ℕ) (hasher : Sha256) (entries : List Entry) → IsSealed number count before calls chapter hasher → (all : SpellEntries calls entries) → count ≡ length entries
    → chapter ≡ chapter_in before number all.strings
chapter_is number count before calls chapter hasher entries sealed all counted =
    sealed.bytes
    ∙ ap (λ n. (chapter_head number n (length calls) ++ calls) ++ sha256 (before ++ (chapter_head number n (length calls) ++ calls))) (counted ∙ sym (number_is calls entries all))
    ∙ ap (λ b. (chapter_head number (length all.strings) (length b) ++ b) ++ sha256 (before ++ (chapter_head number (length all.strings) (length b) ++ b))) (sym all.whole)

module _ (roster : Option Roster) (layout : List ℕ) (start old now : Option (List ℕ)) (hasher next : Sha256) (number count calls : ℕ) (spelled chapter : List ℕ) (chapters : List (List Entry)) (entries : List Entry)
    (r : Records roster layout start old hasher number calls chapters) (sealed : IsSealed number count r.bytes spelled chapter next) (all : SpellEntries spelled entries) (counted : count ≡ length entries) where
  next_is : chapter ≡ chapter_in r.bytes (length chapters) all.strings
  next_is = chapter_is number count r.bytes spelled chapter next entries sealed all counted ∙ ap (λ k. chapter_in r.bytes k all.strings) r.counted

  -- a front of it is
  pub stops_inside : AppendsFront old now chapter → StopsInside roster layout start now chapters
  stops_inside front = record {
    bytes = r.bytes;
    file = r.file;
    between = old;
    grown = r.grown;
    strings = all.strings;
    front = subst (AppendsFront old now) next_is front;
  }

  -- all of it is
  pub records_more : length entries ≤ most_calls → Appends old now chapter → Records roster layout start now next (number + 1) (calls + count) (chapters ++ entries ∷ [])
  records_more few grown = record {
    bytes = r.bytes ++ chapter;
    file = subst (λ es. IsFile roster layout (r.bytes ++ chapter) (chapters ++ es ∷ [])) all.spells
        (file_more roster layout r.bytes chapter chapters all.strings r.file (record { each = all.each; few = (let n = number_is spelled entries all in omega (arith, few, n)) }) next_is);
    grown = Appends-trans start old now r.bytes chapter r.grown grown;
    held = sealed.held;
    counted = (let a = r.counted in let b = length-append chapters (entries ∷ []) in omega (arith, a, b));
    called = (let a = r.called in let b = ap length (calls_more chapters entries) in let c = length-append (calls_of chapters) entries in omega (arith, a, b, c, counted));
  }

-- nothing of the end mark is written
pub stops_unmarked : (roster : Option Roster) (layout : List ℕ) (start now : Option (List ℕ)) (hasher : Sha256) (count calls : ℕ) (chapters : List (List Entry)) → Records roster layout start now hasher count calls chapters → StopsInMark roster layout start now chapters
stops_unmarked roster layout start now hasher count calls chapters r = record {
  bytes = r.bytes;
  file = r.file;
  between = now;
  grown = r.grown;
  front = record { written = []; grown = Appends-nil now; front = (mark_in r.bytes (length (calls_of chapters)), refl) };
}

module _ (roster : Option Roster) (layout : List ℕ) (start old now : Option (List ℕ)) (hasher next : Sha256) (number calls : ℕ) (mark : List ℕ) (chapters : List (List Entry))
    (r : Records roster layout start old hasher number calls chapters) (sealed : IsSealed no_chapter 0 r.bytes (to_le_bytes w64 calls) mark next) where
  mark_is : mark ≡ mark_in r.bytes (length (calls_of chapters))
  mark_is = sealed.bytes ∙ ap (mark_in r.bytes) r.called

  -- a front of it is
  pub stops_in_mark : AppendsFront old now mark → StopsInMark roster layout start now chapters
  stops_in_mark front = record { bytes = r.bytes; file = r.file; between = old; grown = r.grown; front = subst (AppendsFront old now) mark_is front }

  -- all of it is
  pub ends_in_order : Appends old now mark → EndsInOrder roster layout start now chapters
  ends_in_order grown = record {
    bytes = r.bytes ++ mark_in r.bytes (length (calls_of chapters));
    file = record { before = r.bytes; file = r.file; whole = refl };
    grown = Appends-trans start old now r.bytes (mark_in r.bytes (length (calls_of chapters))) r.grown (subst (Appends old now) mark_is grown);
  }

-- of an error
pub on_err : {A E : Type 0} (r : Result A E) (P : Type 0) → P → OnErr r P
on_err (Ok x) P p = tt
on_err (Err e) P p = p
