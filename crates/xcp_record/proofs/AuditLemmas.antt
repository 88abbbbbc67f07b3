-- How an audit goes on from chapter to chapter, and how it ends.
use Rattle.std.proofs.Common.{inl, inr, ◌≡◌, ◌<◌, ℕ, ◌+◌, List, [], ◌∷◌, ◌++◌, map, refl, sym, ap, ◌∙◌, subst, arith, append_assoc, append-nil, length-append}
use Rattle.std.specs.Prelude.{◌⊎◌, Ok, Err, None, Option}
use Rattle.sha2.specs.declared.Sha256.{Sha256}
use Rattle.sha2.specs.Hashers.{Holds256}
use Rattle.xcp_slave.specs.Run.{Run}
use Rattle.xcp_slave.specs.SlaveValue.{SlaveValue}
use Rattle.xcp_trace.specs.declared.Entry.{Entry}
use Rattle.xcp_trace.specs.EntrySpelling.{entry_in}
use Rattle.xcp_record.specs.declared.fault.AuditFault.{AuditFault}
use Rattle.xcp_record.specs.declared.fault.AuditFault.TheVariants as audits
use Rattle.xcp_record.specs.declared.chapter.ChapterFault.{ChapterFault}
use Rattle.xcp_record.specs.declared.chapter.ChapterFault.TheVariants as faults
use Rattle.xcp_record.specs.declared.ending.FileEnding.{FileEnding}
use Rattle.xcp_record.specs.declared.auditing.Part.TheVariants as parts
use Rattle.xcp_record.specs.declared.roster.Roster.{Roster}
use Rattle.xcp_record.specs.FileFormat.{ending_in, head, mark_head}
use Rattle.xcp_record.specs.JournalFile.{IsFile, IsNoChapter, IsNoEnd, IsNoPart, calls_of, exchanges}
use Rattle.xcp_record.specs.Audit.{Audits, Differs, Mismatches}
use Rattle.xcp_record.specs.private.ReadChapter.{ChecksChapter, IsRead, ReadsMark, ReadsNextPart, ReadsParts, fault_after}
use Rattle.xcp_record.specs.private.ReadHead.{ReadsHead, ReadsRoster}
use Rattle.xcp_record.specs.private.Stands.{AuditStands}
use Rattle.xcp_record.proofs.FileLemmas.{calls_more, file_begins, mismatch_more, settles_more}
use Rattle.xcp_record.proofs.MarkLemmas.{large_no_part, mark_no_chapter}

-- what stands in a head's place ends the audit, of a file with the roster of that head
pub no_head_said : (layout : List ℕ) (v : SlaveValue) (End : Type 0) (read : List ℕ) (hasher : Sha256) (fault : AuditFault) → ReadsHead layout End read hasher (Err fault) → (roster : Option Roster) × Audits roster layout v End read (Err fault)
no_head_said layout v End read hasher audits.OtherLayout h = (h.0, (h.1, h.2, h.3, h.4))
no_head_said layout v End read hasher audits.Foreign h = (None, h)
no_head_said layout v End read hasher audits.Read h = (None, tt)
no_head_said layout v End read hasher audits.Memory h = absurd h
no_head_said layout v End read hasher (audits.Mismatch n) h = absurd h
no_head_said layout v End read hasher (audits.Cut n) h = absurd h
no_head_said layout v End read hasher (audits.Altered n) h = absurd h
no_head_said layout v End read hasher (audits.TooLong n) h = absurd h

-- what stands in a roster's place stands in the head's
pub roster_fault : (layout first : List ℕ) (End : Type 0) (read : List ℕ) (hasher : Sha256) (fault : AuditFault) → ReadsRoster first End read (Err fault) → ReadsHead layout End (first ++ read) hasher (Err fault)
roster_fault layout first End read hasher audits.Foreign h = h
roster_fault layout first End read hasher audits.Read h = tt
roster_fault layout first End read hasher audits.Memory h = absurd h
roster_fault layout first End read hasher audits.OtherLayout h = absurd h
roster_fault layout first End read hasher (audits.Mismatch n) h = absurd h
roster_fault layout first End read hasher (audits.Cut n) h = absurd h
roster_fault layout first End read hasher (audits.Altered n) h = absurd h
roster_fault layout first End read hasher (audits.TooLong n) h = absurd h

-- behind the head nothing is read yet
pub begins : (roster : Option Roster) (layout : List ℕ) (v : SlaveValue) (Read : List ℕ → Type 0) (Told : List Entry → Type 0) (read : List ℕ) (hasher : Sha256) → Read read → Told [] → read ≡ head roster layout → Holds256 hasher read → AuditStands roster layout v Read Told hasher v 0 0
begins roster layout v Read Told read hasher was told is held = record {
  read = read;
  was = was;
  held = held;
  settled = record { chapters = []; file = subst (λ b. IsFile roster layout b []) (sym is) (file_begins roster layout); last = v; run = refl; count = refl };
  last = refl;
  told = told;
  numbered = refl;
  few = omega arith;
}

-- one more chapter is settled
pub stands_more : (roster : Option Roster) (layout : List ℕ) (v w slave : SlaveValue) (Read Next : List ℕ → Type 0) (Told More : List Entry → Type 0) (hasher more : Sha256) (number n count : ℕ) (read calls : List ℕ)
    → (s : AuditStands roster layout v Read Told hasher slave number n) → (next : IsRead number s.read read calls count) → Next (s.read ++ read) → More (calls_of s.settled.chapters ++ map entry_in next.strings) → Holds256 more (s.read ++ read)
    → Run slave (exchanges (map entry_in next.strings)) w → AuditStands roster layout v Next More more w (number + 1) (n + count)
stands_more roster layout v w slave Read Next Told More hasher more number n count read calls s next was told held run = record {
  read = s.read ++ read;
  was = was;
  held = held;
  settled = settles_more roster layout v slave w s.read read calls number n count s.settled s.numbered s.last next run;
  last = refl;
  told = subst More (sym (calls_more s.settled.chapters (map entry_in next.strings))) told;
  numbered = length-append s.settled.chapters (map entry_in next.strings ∷ []) ∙ (let k = s.numbered in omega (arith, k));
  few = (let a = s.few in let b = next.chapter.few in let c = next.size in omega (arith, a, b, c));
}

-- how the next chapter's fault ends it
pub ends : (roster : Option Roster) (layout : List ℕ) (v slave : SlaveValue) (Read : List ℕ → Type 0) (Told : List Entry → Type 0) (End : Type 0) (hasher more : Sha256) (number n : ℕ) (read calls : List ℕ) (fault : ChapterFault)
    → (s : AuditStands roster layout v Read Told hasher slave number n) → ReadsNextPart number n s.read End read calls more (Err fault) → Audits roster layout v End (s.read ++ read) (Err (fault_after n fault))
ends roster layout v slave Read Told End hasher more number n read calls faults.Cut s h = (h.0, record { before = s.read; rest = read; joined = refl; settled = s.settled; why = (h.1, h.2) })
ends roster layout v slave Read Told End hasher more number n read calls faults.Altered s h =
    record { before = s.read; rest = read; joined = refl; settled = s.settled; why = subst (λ k. IsNoPart n k s.read read) (sym s.numbered) h }
ends roster layout v slave Read Told End hasher more number n read calls faults.Read s h = tt
ends roster layout v slave Read Told End hasher more number n read calls faults.Memory s h = tt

-- the end of the file
pub ends_settled : (roster : Option Roster) (layout : List ℕ) (v slave : SlaveValue) (Read : List ℕ → Type 0) (Told : List Entry → Type 0) (End : Type 0) (hasher : Sha256) (number n : ℕ) (read : List ℕ) (ending : FileEnding)
    → (s : AuditStands roster layout v Read Told hasher slave number n) → End → read ≡ ending_in s.read n ending → Audits roster layout v End (s.read ++ read) (Ok (record { calls = n; ending = ending }))
ends_settled roster layout v slave Read Told End hasher number n read ending s end is =
    (end, record { before = s.read; settled = s.settled; whole = ap (λ b. s.read ++ b) is })

-- a call that differs
pub ends_mismatch : (roster : Option Roster) (layout : List ℕ) (v slave : SlaveValue) (Read : List ℕ → Type 0) (Told : List Entry → Type 0) (End : Type 0) (hasher : Sha256) (number n count i place : ℕ) (read calls : List ℕ)
    → (s : AuditStands roster layout v Read Told hasher slave number n) → (next : IsRead number s.read read calls count) → Differs slave (map entry_in next.strings) i → place ≡ n + i
    → Audits roster layout v End (s.read ++ read) (Err (audits.Mismatch place))
ends_mismatch roster layout v slave Read Told End hasher number n count i place read calls s next differs is =
    subst (λ k. Mismatches roster layout v (s.read ++ read) k) (sym is) (mismatch_more roster layout v slave s.read read calls number n count i s.settled s.numbered s.last next differs)

-- too many chapters
pub ends_too_long : (roster : Option Roster) (layout : List ℕ) (v slave : SlaveValue) (Read : List ℕ → Type 0) (Told : List Entry → Type 0) (End : Type 0) (hasher : Sha256) (number n : ℕ)
    → (s : AuditStands roster layout v Read Told hasher slave number n) → 4294967296 < number → Audits roster layout v End s.read (Err (audits.TooLong n))
ends_too_long roster layout v slave Read Told End hasher number n s many =
    record { before = s.read; rest = []; joined = sym (append-nil s.read); settled = s.settled; why = (let k = s.numbered in omega (arith, k, many)) }

-- what the next chapter's parts say
pub parts_fault : (End : Type 0) (first calls digest read left before : List ℕ) (number n : ℕ) (hasher : Sha256) (fault : ChapterFault) → ReadsParts End first calls digest read (Err fault)
    → ReadsNextPart number n before End read left hasher (Err fault)
parts_fault End first calls digest read left before number n hasher faults.Cut h = h
parts_fault End first calls digest read left before number n hasher faults.Altered h = large_no_part before number n read h.0 h.1
parts_fault End first calls digest read left before number n hasher faults.Read h = tt
parts_fault End first calls digest read left before number n hasher faults.Memory h = tt

-- and those of an end mark
pub mark_fault : (End : Type 0) (first rest whole more left before : List ℕ) (number n : ℕ) (hasher : Sha256) (fault : ChapterFault) → first ≡ mark_head → whole ≡ first ++ rest → ReadsMark n before End (whole ++ more) (Err fault)
    → ReadsNextPart number n before End (whole ++ more) left hasher (Err fault)
mark_fault End first rest whole more left before number n hasher faults.Altered begins is said = (
  subst (IsNoChapter number before) (sym (ap (λ b. b ++ more) is ∙ append_assoc first rest more)) (mark_no_chapter before number first (rest ++ more) begins),
  said,
)
mark_fault End first rest whole more left before number n hasher faults.Memory begins is said = tt
mark_fault End first rest whole more left before number n hasher faults.Read begins is said = tt
mark_fault End first rest whole more left before number n hasher faults.Cut begins is said = absurd said

-- and its check
pub check_said : (End : Type 0) (read whole calls before : List ℕ) (number n count : ℕ) (hasher : Sha256) → read ≡ whole → ChecksChapter number before whole calls hasher (Ok count)
    → ReadsNextPart number n before End read calls hasher (Ok (parts.Chapter count))
check_said End read whole calls before number n count hasher is said = subst (λ b. IsRead number before b calls count × Holds256 hasher (before ++ b)) (sym is) said

-- where the check fails and no end mark stands there either, the next part has the same fault
pub check_fault : (End : Type 0) (read whole calls before : List ℕ) (number n : ℕ) (hasher : Sha256) (fault : ChapterFault) → read ≡ whole → IsNoEnd n before whole → ChecksChapter number before whole calls hasher (Err fault)
    → ReadsNextPart number n before End read calls hasher (Err fault)
check_fault End read whole calls before number n hasher faults.Altered is other said = subst (λ b. IsNoPart n number before b) (sym is) (said, other)
check_fault End read whole calls before number n hasher faults.Memory is other said = tt
check_fault End read whole calls before number n hasher faults.Cut is other said = absurd said
check_fault End read whole calls before number n hasher faults.Read is other said = absurd said

-- a failed read, or no memory
pub parts_lost : (End : Type 0) (first calls digest read : List ℕ) (fault : ChapterFault) → (fault ≡ faults.Read) ⊎ (fault ≡ faults.Memory) → ReadsParts End first calls digest read (Err fault)
parts_lost End first calls digest read fault (inl h) = subst (λ f. ReadsParts End first calls digest read (Err f)) (sym h) tt
parts_lost End first calls digest read fault (inr h) = subst (λ f. ReadsParts End first calls digest read (Err f)) (sym h) tt
