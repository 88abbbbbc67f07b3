-- Joined chapters, and one more.
use Rattle.std.proofs.Common.{◌≡◌, ℕ, zero, suc, ◌+◌, List, [], ◌∷◌, ◌++◌, length, refl, sym, ap, ◌∙◌, subst, arith, length-append, append_assoc}
use Rattle.std.specs.Prelude.{Some}
use Rattle.std.specs.List.{slice_get}
use Rattle.std.proofs.lemmas.List.{map-append, append-nil}
use Rattle.xcp_memory.specs.Layout.{LayoutValue}
use Rattle.xcp_slave.specs.declared.Exchange.{Exchange}
use Rattle.xcp_slave.specs.Run.{Run}
use Rattle.xcp_slave.specs.SlaveValue.{SlaveValue, opening}
use Rattle.xcp_trace.specs.declared.Entry.{Entry}
use Rattle.xcp_locked.specs.Chapters.{AreJoined, LeadTo, entries_of}
use Rattle.xcp_locked.specs.Journal.{exchanges}
use Rattle.xcp_locked.specs.LockedSlave.{ChapterValue}
use Rattle.xcp_locked.proofs.ChapterLemmas.{run_joined}

-- no chapter is joined yet
pub joined_none : (l : LayoutValue) → AreJoined l [] 0 0 (opening l)
joined_none l = record { lead = (refl, refl, refl); count = refl; run = refl }

lead_on : (k n : ℕ) (v : SlaveValue) (cs : List ChapterValue) (k2 n2 : ℕ) (v2 : SlaveValue) (c : ChapterValue) → LeadTo k n v cs k2 n2 v2 → c.number ≡ k2 → c.before ≡ n2 → c.base ≡ v2 → LeadTo k n v (cs ++ c ∷ []) (k2 + 1) (n2 + length c.entries) c.last
lead_on k n v [] k2 n2 v2 c h a b d = (a ∙ h.0, b ∙ h.1, d ∙ h.2, (λ i. h.0 i + 1, λ i. h.1 i + length c.entries, refl))
lead_on k n v (e ∷ cs) k2 n2 v2 c h a b d = (h.0, h.1, h.2, lead_on (k + 1) (n + length e.entries) e.last cs k2 n2 v2 c h.3 a b d)

-- the calls of one chapter more stand behind those of the others
pub entries_on : (cs : List ChapterValue) (c : ChapterValue) → entries_of (cs ++ c ∷ []) ≡ entries_of cs ++ c.entries
entries_on [] c = append-nil c.entries
entries_on (e ∷ cs) c = ap (λ z. e.entries ++ z) (entries_on cs c) ∙ sym (append_assoc e.entries (entries_of cs) c.entries)

-- the next one joins those before it
pub joined_more : (l : LayoutValue) (cs : List ChapterValue) (k n : ℕ) (v : SlaveValue) (c : ChapterValue) → AreJoined l cs k n v → c.number ≡ k → c.before ≡ n → c.base ≡ v → Run c.base (exchanges c.entries) c.last → AreJoined l (cs ++ c ∷ []) (k + 1) (n + length c.entries) c.last
joined_more l cs k n v c j number before base run =
    let all = entries_on cs c in
    let count = j.count in
    record {
      lead = lead_on 0 0 (opening l) cs k n v c j.lead number before base;
      count = ap length all ∙ (length-append (entries_of cs) c.entries ∙ ap (λ (m : ℕ). m + length c.entries) count);
      run = subst (λ (z : List Exchange). Run (opening l) z c.last) (sym (ap exchanges all ∙ map-append (λ (e : Entry). e.exchange) (entries_of cs) c.entries))
          (run_joined (opening l) v c.last (exchanges (entries_of cs)) (exchanges c.entries) j.run (subst (λ (z : SlaveValue). Run z (exchanges c.entries) c.last) base run));
    }

-- each has the number of its place
numbers_from : (k n : ℕ) (v : SlaveValue) (cs : List ChapterValue) (k2 n2 : ℕ) (v2 : SlaveValue) → LeadTo k n v cs k2 n2 v2 → (j : ℕ) (c : ChapterValue) → slice_get cs j ≡ Some c → c.number ≡ k + j
numbers_from k n v [] k2 n2 v2 h j c there = cc
numbers_from k n v (e ∷ cs) k2 n2 v2 h zero c there =
    let same : e ≡ c = some_same e c there in
    sym (ap (λ (x : ChapterValue). x.number) same) ∙ (h.0 ∙ omega arith)
  where
    some_same : (x y : ChapterValue) → Some x ≡ Some y → x ≡ y
    some_same x y e = cc
numbers_from k n v (e ∷ cs) k2 n2 v2 h (suc j) c there = numbers_from (k + 1) (n + length e.entries) e.last cs k2 n2 v2 h.3 j c there ∙ omega arith

-- joined chapters are numbered by their places from 0 on
pub numbers : (l : LayoutValue) (cs : List ChapterValue) (k n : ℕ) (v : SlaveValue) → AreJoined l cs k n v → (j : ℕ) (c : ChapterValue) → slice_get cs j ≡ Some c → c.number ≡ j
numbers l cs k n v h j c there = let is = numbers_from 0 0 (opening l) cs k n v h.lead j c there in omega (arith, is)

count_from : (k n : ℕ) (v : SlaveValue) (cs : List ChapterValue) (k2 n2 : ℕ) (v2 : SlaveValue) → LeadTo k n v cs k2 n2 v2 → k2 ≡ k + length cs
count_from k n v [] k2 n2 v2 h = let is = h.0 in omega (arith, is)
count_from k n v (e ∷ cs) k2 n2 v2 h = let is = count_from (k + 1) (n + length e.entries) e.last cs k2 n2 v2 h.3 in omega (arith, is)

-- the next one's number is how many there are
pub count_of : (l : LayoutValue) (cs : List ChapterValue) (k n : ℕ) (v : SlaveValue) → AreJoined l cs k n v → k ≡ length cs
count_of l cs k n v h = let is = count_from 0 0 (opening l) cs k n v h.lead in omega (arith, is)

-- chapters lead on to one place alone
lead_same : (k n : ℕ) (v : SlaveValue) (cs : List ChapterValue) (k2 n2 k3 n3 : ℕ) (v2 v3 : SlaveValue) → LeadTo k n v cs k2 n2 v2 → LeadTo k n v cs k3 n3 v3 → (k2 ≡ k3) × (n2 ≡ n3) × (v2 ≡ v3)
lead_same k n v [] k2 n2 k3 n3 v2 v3 h g = (h.0 ∙ sym g.0, h.1 ∙ sym g.1, h.2 ∙ sym g.2)
lead_same k n v (e ∷ cs) k2 n2 k3 n3 v2 v3 h g = lead_same (k + 1) (n + length e.entries) e.last cs k2 n2 k3 n3 v2 v3 h.3 g.3

-- joined chapters lead on to one number, one count of calls and one slave alone
pub joined_same : (l : LayoutValue) (cs : List ChapterValue) (k n k2 n2 : ℕ) (v v2 : SlaveValue) → AreJoined l cs k n v → AreJoined l cs k2 n2 v2 → (k ≡ k2) × (n ≡ n2) × (v ≡ v2)
joined_same l cs k n k2 n2 v v2 h g = lead_same 0 0 (opening l) cs k n k2 n2 v v2 h.lead g.lead
