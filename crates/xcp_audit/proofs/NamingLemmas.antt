-- By what a journal's file is read that names either of two SHA-256.
use Rattle.std.proofs.Common.{◌≡◌, inl, inr, ℕ, zero, suc, ◌*◌, List, [], ◌∷◌, ◌++◌, length, take, drop, refl, sym, ap, ◌∙◌, subst, arith, append_assoc, append-nil, length-append, take-take}
use Rattle.std.specs.Prelude.{IfSome, Option, Some, None, Result, Err}
use Rattle.std.specs.Io.KnownBytes.{Consumes}
use Rattle.std.proofs.Math.Seq.{take-append_seam}
use Rattle.std.proofs.lemmas.List.{drop-take}
use Rattle.sha2.specs.Sha256.{digest_bytes, sha256}
use Rattle.xcp_memory.specs.Layout.{LayoutValue}
use Rattle.xcp_slave.specs.SlaveValue.{SlaveValue}
use Rattle.xcp_record.specs.declared.AuditFault.{AuditFault}
use Rattle.xcp_record.specs.declared.AuditFault.TheVariants as found
use Rattle.xcp_record.specs.declared.FileEnding.{FileEnding}
use Rattle.xcp_record.specs.declared.Roster.{Roster}
use Rattle.xcp_record.specs.declared.Settled.{Settled}
use Rattle.xcp_record.specs.Audit.{Audits, HoldsRun, SaysSettled}
use Rattle.xcp_record.specs.FileFormat.{chapter_in, ending_in, head, roster_bytes, with_chapters}
use Rattle.xcp_program.specs.Decided.{answers_decided}
use Rattle.xcp_audit.specs.Naming.{IsReadBy, NamesLayout, named_in}

digest_length : (h : List ℕ) (n : ℕ) → length (digest_bytes h n) ≡ 4 * n
unfolding digest_bytes
digest_length h zero = refl
digest_length h (suc n) = length-append (digest_bytes h n) _ ∙ (let before = digest_length h n in omega (arith, before))

-- a digest has 32 bytes
sha256_length : (m : List ℕ) → length (sha256 m) ≡ 32
unfolding sha256
sha256_length m = digest_length _ 8

named_length : (config : List ℕ) (layout : LayoutValue) (d : List ℕ) → NamesLayout config layout d → length d ≡ 32
named_length config layout d (inl a) = ap length a ∙ sha256_length (answers_decided layout)
named_length config layout d (inr t) = ap length t ∙ sha256_length config

-- the front of 32 bytes is all of them
front_of : (d more : List ℕ) → length d ≡ 32 → take 32 (d ++ more) ≡ d
front_of d more is = ap (λ (k : ℕ). take k (d ++ more)) (sym is) ∙ take-append_seam d more

-- bytes that begin with a head name what it names
named_head : (r : Option Roster) (d more : List ℕ) → length d ≡ 32 → named_in (head r d ++ more) ≡ d
unfolding head
named_head None d more is = front_of d more is
named_head (Some r) d more is = ap (take 32) (append_assoc d (roster_bytes r) more) ∙ front_of d (roster_bytes r ++ more) is

-- and so do their first 38
named_take : (all : List ℕ) → named_in (take 38 all) ≡ named_in all
named_take all = ap (take 32) (drop-take 6 32 all) ∙ take-take 32 32 (drop 6 all) (omega arith)

-- a file begins with its head
begins : (before : List ℕ) (number : ℕ) (chapters : List (List (List ℕ))) → (more : List ℕ) × (with_chapters before number chapters ≡ before ++ more)
begins before number [] = ([], sym (append-nil before))
begins before number (calls ∷ chapters) =
    let added = chapter_in before number calls in
    let next = begins (before ++ added) (suc number) chapters in
    (added ++ next.0, next.1 ∙ append_assoc before added next.0)

-- so a file with a run names what it is of
run_named : (r : Option Roster) (d : List ℕ) (v : SlaveValue) (all : List ℕ) (n : ℕ) (ending : FileEnding) → length d ≡ 32 → HoldsRun r d v all n ending → named_in all ≡ d
run_named r d v all n ending is h =
    let file = h.holds.settled.file in
    let chapters = begins (head r d) 0 file.strings in
    let last = ending_in h.holds.before n ending in
    ap named_in (h.holds.whole ∙ ap (λ b. b ++ last) (file.whole ∙ chapters.1) ∙ append_assoc (head r d) chapters.0 last) ∙ named_head r d (chapters.0 ++ last) is

-- it is read by what it names, where that is either of the two
chosen : (config : List ℕ) (layout : LayoutValue) (named digest d : List ℕ) → IsReadBy config layout named digest → NamesLayout config layout d → named ≡ d → d ≡ digest
chosen config layout named digest d (inl t) names same = sym same ∙ t.0 ∙ sym t.1
chosen config layout named digest d (inr a) (inl names) same = names ∙ sym a.1
chosen config layout named digest d (inr a) (inr names) same = absurd (a.0 (same ∙ names))

-- where a run in a file of the digest by which it is read is said to be settled, so is one in a file that names either SHA-256
pub settles_either : (config : List ℕ) (layout : LayoutValue) (front digest : List ℕ) (v : SlaveValue) (left : Option (List ℕ)) (said : Result Settled AuditFault)
    → IfSome left (λ all. front ≡ take 38 all) → IsReadBy config layout (named_in front) digest
    → IfSome left (λ all. (r : Option Roster) (n : ℕ) (ending : FileEnding) → HoldsRun r digest v all n ending → SaysSettled n ending said)
    → IfSome left (λ all. (d : List ℕ) (r : Option Roster) (n : ℕ) (ending : FileEnding) → NamesLayout config layout d → HoldsRun r d v all n ending → SaysSettled n ending said)
settles_either config layout front digest v None said fronts read_by settles = tt
settles_either config layout front digest v (Some all) said fronts read_by settles = λ d r n ending names holds.
    let named = ap named_in fronts ∙ named_take all ∙ run_named r d v all n ending (named_length config layout d names) holds in
    settles r n ending (subst (λ e. HoldsRun r e v all n ending) (chosen config layout (named_in front) digest d read_by names named) holds)

-- bytes that are read of a known file begin it
read_begins : (all : List ℕ) (after : Option (List ℕ)) (read : List ℕ) → Consumes (Some all) after read → (more : List ℕ) × (all ≡ read ++ more)
read_begins all None read h = absurd h
read_begins all (Some more) read h = (more, h)

-- what is said to be of another layout names neither
pub others_neither : (config : List ℕ) (layout : LayoutValue) (front digest : List ℕ) (roster : Option Roster) (v : SlaveValue) (left after : Option (List ℕ)) (End : Type 0) (read : List ℕ) (said : Result Settled AuditFault)
    → IfSome left (λ all. front ≡ take 38 all) → IsReadBy config layout (named_in front) digest → Consumes left after read → Audits roster digest v End read said
    → IfSome left (λ all. said ≡ Err found.OtherLayout → NamesLayout config layout (named_in all) → ⊥)
others_neither config layout front digest roster v None after End read said fronts read_by consumed audits = tt
others_neither config layout front digest roster v (Some all) after End read said fronts read_by consumed audits = λ is names.
    let other = subst (λ s. Audits roster digest v End read s) is audits in
    let more = read_begins all after read consumed in
    let named = ap named_in (more.1 ∙ ap (λ b. b ++ more.0) other.3) ∙ named_head roster other.0 more.0 other.1 in
    other.2 (sym named ∙ chosen config layout (named_in front) digest (named_in all) read_by names (ap named_in fronts ∙ named_take all))
