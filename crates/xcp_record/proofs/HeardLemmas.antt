-- Which calls a witness has heard when an audit ends.
use Rattle.std.proofs.Common.{◌≡◌, ℕ, suc, ◌+◌, List, [], ◌∷◌, ◌++◌, length, map, take, refl, sym, ap, ◌∙◌, arith, append-nil, inl, inr}
use Rattle.std.specs.Prelude.{Err, Ok, Option}
use Rattle.std.proofs.Math.Seq.{take-append-add}
use Rattle.sha2.specs.declared.Sha256.{Sha256}
use Rattle.xcp_slave.specs.SlaveValue.{SlaveValue}
use Rattle.xcp_trace.specs.declared.Entry.{Entry}
use Rattle.xcp_trace.specs.EntrySpelling.{entry_in}
use Rattle.xcp_record.specs.declared.fault.AuditFault.{AuditFault}
use Rattle.xcp_record.specs.declared.fault.AuditFault.TheVariants as audits
use Rattle.xcp_record.specs.declared.chapter.ChapterFault.{ChapterFault}
use Rattle.xcp_record.specs.declared.chapter.ChapterFault.TheVariants as faults
use Rattle.xcp_record.specs.declared.ending.FileEnding.{FileEnding}
use Rattle.xcp_record.specs.declared.roster.Roster.{Roster}
use Rattle.xcp_record.specs.FileFormat.{chapter_in, ending_in}
use Rattle.xcp_record.specs.JournalFile.{calls_of}
use Rattle.xcp_record.specs.Audit.{HasCalls, HasCallsUpTo, Witnesses}
use Rattle.xcp_record.specs.private.ReadChapter.{IsRead, fault_after}
use Rattle.xcp_record.specs.private.ReadHead.{ReadsHead}
use Rattle.xcp_record.specs.private.Stands.{AuditStands}
use Rattle.xcp_record.proofs.FileLemmas.{calls_more, file_more}

-- the first of two lists, and some of the second
take_behind : {A : Type 0} (xs ys : List A) (n k i : ℕ) → length xs ≡ n → k ≡ n + i → xs ++ take (suc i) ys ≡ take (suc k) (xs ++ ys)
take_behind xs ys n k i size is =
    let same : suc k ≡ length xs + suc i = omega (arith, size, is) in
    sym (ap (λ m. take m (xs ++ ys)) same ∙ take-append-add xs ys (suc i))

-- of a file without its head, nothing
pub hears_no_head : (roster : Option Roster) (layout : List ℕ) (End : Type 0) (read : List ℕ) (hasher : Sha256) (fault : AuditFault) → ReadsHead layout End read hasher (Err fault) → Witnesses roster layout read (Err fault) []
hears_no_head roster layout End read hasher audits.OtherLayout h = refl
hears_no_head roster layout End read hasher audits.Foreign h = refl
hears_no_head roster layout End read hasher audits.Read h = inl refl
hears_no_head roster layout End read hasher audits.Memory h = inl refl
hears_no_head roster layout End read hasher (audits.Mismatch n) h = absurd h
hears_no_head roster layout End read hasher (audits.Cut n) h = absurd h
hears_no_head roster layout End read hasher (audits.Altered n) h = absurd h
hears_no_head roster layout End read hasher (audits.TooLong n) h = absurd h

module _ (roster : Option Roster) (layout : List ℕ) (v slave : SlaveValue) (Read : List ℕ → Type 0) (Told : List Entry → Type 0) (hasher : Sha256) (number n : ℕ) (s : AuditStands roster layout v Read Told hasher slave number n) where
  -- the calls of the whole chapters so far
  whole : HasCalls roster layout s.read (calls_of s.settled.chapters)
  whole = record { chapters = s.settled.chapters; file = s.settled.file; all = refl }

  up_to : (read all : List ℕ) → all ≡ s.read ++ read → HasCallsUpTo roster layout all n (calls_of s.settled.chapters)
  up_to read all is = record { before = s.read; rest = read; joined = is; has = whole; count = s.settled.count }

  -- of the whole file
  pub hears_all : (read : List ℕ) (ending : FileEnding) → read ≡ ending_in s.read n ending → Witnesses roster layout (s.read ++ read) (Ok (record { calls = n; ending = ending })) (calls_of s.settled.chapters)
  hears_all read ending is = record { before = s.read; has = whole; count = s.settled.count; whole = ap (λ b. s.read ++ b) is }

  -- up to the next chapter
  pub hears_before : (read : List ℕ) (fault : ChapterFault) → Witnesses roster layout (s.read ++ read) (Err (fault_after n fault)) (calls_of s.settled.chapters)
  hears_before read faults.Cut = up_to read (s.read ++ read) refl
  hears_before read faults.Altered = up_to read (s.read ++ read) refl
  hears_before read faults.Read = inr (n, up_to read (s.read ++ read) refl)
  hears_before read faults.Memory = inr (n, up_to read (s.read ++ read) refl)

  -- of too many chapters
  pub hears_too_long : Witnesses roster layout s.read (Err (audits.TooLong n)) (calls_of s.settled.chapters)
  hears_too_long = up_to [] s.read (sym (append-nil s.read))

  -- up to a call of the next chapter that differs
  pub hears_differing : (read calls : List ℕ) (count i place : ℕ) (next : IsRead number s.read read calls count) → place ≡ n + i
      → Witnesses roster layout (s.read ++ read) (Err (audits.Mismatch place)) (calls_of s.settled.chapters ++ take (suc i) (map entry_in next.strings))
  hears_differing read calls count i place next is =
      let last = map entry_in next.strings in
      let front = calls_of s.settled.chapters in (
        front ++ last,
        record {
          chapters = s.settled.chapters ++ last ∷ [];
          file = file_more roster layout s.read read s.settled.chapters next.strings s.settled.file next.chapter (next.whole ∙ ap (λ k. chapter_in s.read k next.strings) (sym s.numbered));
          all = sym (calls_more s.settled.chapters last);
        },
        take_behind front last n place i s.settled.count is,
      )
