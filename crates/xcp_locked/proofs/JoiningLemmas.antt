-- Chapters that follow one another, one by one.
use Rattle.std.proofs.Common.{◌≡◌, ◌<◌, inl, inr, Some, ℕ, zero, suc, ◌+◌, ◌-◌, List, [], ◌∷◌, ◌++◌, length, take, get_or, refl, sym, ap, ◌∙◌, subst, arith, length-append, append_assoc}
use Rattle.std.specs.Prelude.{slice_get}
use Rattle.std.proofs.lemmas.List.{map-append, append-nil}
use Rattle.xcp_memory.specs.Layout.{LayoutValue}
use Rattle.xcp_slave.specs.declared.Exchange.{Exchange}
use Rattle.xcp_slave.specs.Run.{Run}
use Rattle.xcp_slave.specs.SlaveValue.{SlaveValue, opening}
use Rattle.xcp_trace.specs.declared.Entry.{Entry}
use Rattle.xcp_locked.specs.Chapters.{AreJoined, Follows, IsFirstGap, LeadTo, entries_of}
use Rattle.xcp_locked.specs.private.NoChapter.{empty_chapter}
use Rattle.xcp_locked.specs.Journal.{exchanges}
use Rattle.xcp_locked.specs.LockedSlave.{ChapterValue, IsReached}
use Rattle.xcp_locked.proofs.ChapterLemmas.{run_joined}

-- where the first k chapters end
abbrev pub end_before : LayoutValue → List ChapterValue → ℕ → SlaveValue
end_before l cs zero = opening l
end_before l cs (suc k) = (get_or cs k empty_chapter).last

-- nothing was called before the opening
pub reached_none : (l : LayoutValue) (n : ℕ) (v : SlaveValue) → n ≡ 0 → IsReached l n v → v ≡ opening l
reached_none l n v none r = by_past r.past (r.count ∙ none) r.run
  where
    by_past : (xs : List Exchange) → length xs ≡ 0 → Run (opening l) xs v → v ≡ opening l
    by_past [] e run = run
    by_past (x ∷ xs) e run = absurd (omega (arith, e))

-- the first k chapters are one run from the opening
pub record AreFirst (l : LayoutValue) (cs : List ChapterValue) (k calls : ℕ) : Type 0 where
  pub lead : LeadTo 0 0 (opening l) (take k cs) k calls (end_before l cs k)
  pub count : length (entries_of (take k cs)) ≡ calls
  pub run : Run (opening l) (exchanges (entries_of (take k cs))) (end_before l cs k)

-- the first 0 chapters are one run of no calls from the opening
pub first_none : (l : LayoutValue) (cs : List ChapterValue) → AreFirst l cs 0 0
first_none l cs = record { lead = (refl, refl, refl); count = refl; run = refl }

lead_more : (k n : ℕ) (v : SlaveValue) (cs : List ChapterValue) (k2 n2 : ℕ) (v2 : SlaveValue) (c : ChapterValue) → LeadTo k n v cs k2 n2 v2 → c.number ≡ k2 → c.before ≡ n2 → c.base ≡ v2 → LeadTo k n v (cs ++ c ∷ []) (k2 + 1) (n2 + length c.entries) c.last
lead_more k n v [] k2 n2 v2 c h a b d = (a ∙ h.0, b ∙ h.1, d ∙ h.2, (λ i. h.0 i + 1, λ i. h.1 i + length c.entries, refl))
lead_more k n v (e ∷ cs) k2 n2 v2 c h a b d = (h.0, h.1, h.2, lead_more (k + 1) (n + length e.entries) e.last cs k2 n2 v2 c h.3 a b d)

entries_more : (cs : List ChapterValue) (c : ChapterValue) → entries_of (cs ++ c ∷ []) ≡ entries_of cs ++ c.entries
entries_more [] c = append-nil c.entries
entries_more (e ∷ cs) c = ap (λ z. e.entries ++ z) (entries_more cs c) ∙ sym (append_assoc e.entries (entries_of cs) c.entries)

take_more : (cs : List ChapterValue) (k : ℕ) → k < length cs → take (suc k) cs ≡ take k cs ++ get_or cs k empty_chapter ∷ []
take_more [] k h = absurd (omega (arith, h))
take_more (c ∷ cs) zero h = refl
take_more (c ∷ cs) (suc k) h = ap (λ (z : List ChapterValue). c ∷ z) (take_more cs k (omega (arith, h)))

-- where a chapter begins that follows the first k
begins_at : (l : LayoutValue) (cs : List ChapterValue) (k n : ℕ) (v : SlaveValue) → IsReached l n v → (k ≡ 0 → n ≡ 0) → (0 < k → v ≡ (get_or cs (k - 1) empty_chapter).last) → v ≡ end_before l cs k
begins_at l cs zero n v r first later = reached_none l n v (first refl) r
begins_at l cs (suc k) n v r first later = let e : suc k - 1 ≡ k = omega arith in later (omega arith) ∙ ap (λ (j : ℕ). (get_or cs j empty_chapter).last) e

none_first : (l : LayoutValue) (cs : List ChapterValue) (k calls : ℕ) → AreFirst l cs k calls → k ≡ 0 → calls ≡ 0
none_first l cs k calls a e = sym a.count ∙ ap (λ (j : ℕ). length (entries_of (take j cs))) e

-- one more
pub first_more : (l : LayoutValue) (cs : List ChapterValue) (k calls : ℕ) (c : ChapterValue) → AreFirst l cs k calls → k < length cs → c ≡ get_or cs k empty_chapter → c.number ≡ k → c.before ≡ calls → (0 < k → c.base ≡ (get_or cs (k - 1) empty_chapter).last) → Run c.base (exchanges c.entries) c.last → IsReached l c.before c.base → AreFirst l cs (k + 1) (c.before + length c.entries)
first_more l cs k calls c a low is number before follows run reached =
    let base : c.base ≡ end_before l cs k = begins_at l cs k c.before c.base reached (λ e. before ∙ none_first l cs k calls a e) follows in
    let more : take (suc k) cs ≡ take k cs ++ c ∷ [] = take_more cs k low ∙ ap (λ (x : ChapterValue). take k cs ++ x ∷ []) (sym is) in
    let all : entries_of (take (suc k) cs) ≡ entries_of (take k cs) ++ c.entries = ap entries_of more ∙ entries_more (take k cs) c in
    let end : c.last ≡ end_before l cs (suc k) = ap (λ (x : ChapterValue). x.last) is in
    let next : suc k ≡ k + 1 = omega arith in
    let sum : calls + length c.entries ≡ c.before + length c.entries = ap (λ (n : ℕ). n + length c.entries) (sym before) in
    let lead = lead_more 0 0 (opening l) (take k cs) k calls (end_before l cs k) c a.lead number before base in
    let together = run_joined (opening l) (end_before l cs k) c.last (exchanges (entries_of (take k cs))) (exchanges c.entries) a.run (subst (λ (z : SlaveValue). Run z (exchanges c.entries) c.last) base run) in
    let count = a.count in
    let long : length (entries_of (take (suc k) cs)) ≡ calls + length c.entries = ap length all ∙ (length-append (entries_of (take k cs)) c.entries ∙ ap (λ (n : ℕ). n + length c.entries) count) in
    subst (λ (j : ℕ). AreFirst l cs j (c.before + length c.entries)) next (record {
      lead = subst (λ (z : SlaveValue). LeadTo 0 0 (opening l) (take (suc k) cs) (suc k) (c.before + length c.entries) z) end
          (subst (λ (n : ℕ). LeadTo 0 0 (opening l) (take (suc k) cs) (suc k) n c.last) sum
          (subst (λ (j : ℕ). LeadTo 0 0 (opening l) (take (suc k) cs) j (calls + length c.entries) c.last) (sym next)
          (subst (λ (z : List ChapterValue). LeadTo 0 0 (opening l) z (k + 1) (calls + length c.entries) c.last) (sym more) lead)));
      count = long ∙ sum;
      run = subst (λ (z : SlaveValue). Run (opening l) (exchanges (entries_of (take (suc k) cs))) z) end
          (subst (λ (z : List Exchange). Run (opening l) z c.last) (sym (ap exchanges all ∙ map-append (λ (e : Entry). e.exchange) (entries_of (take k cs)) c.entries)) together);
    })

-- the first chapters, as many as there are, are all of them
pub take_whole : (cs : List ChapterValue) → take (length cs) cs ≡ cs
take_whole [] = refl
take_whole (c ∷ cs) = ap (λ (z : List ChapterValue). c ∷ z) (take_whole cs)

-- all of them, and the open one
pub joined_all : (l : LayoutValue) (cs : List ChapterValue) (k calls number before : ℕ) (base : SlaveValue) → AreFirst l cs k calls → k ≡ length cs → number ≡ k → before ≡ calls → (0 < k → base ≡ (get_or cs (k - 1) empty_chapter).last) → IsReached l before base → AreJoined l cs number before base
joined_all l cs k calls number before base a all is same follows reached =
    let at : base ≡ end_before l cs k = begins_at l cs k before base reached (λ e. same ∙ none_first l cs k calls a e) follows in
    let whole : take k cs ≡ cs = ap (λ (n : ℕ). take n cs) all ∙ take_whole cs in
    record {
      lead = subst (λ (z : SlaveValue). LeadTo 0 0 (opening l) cs number before z) (sym at)
          (subst (λ (n : ℕ). LeadTo 0 0 (opening l) cs number n (end_before l cs k)) (sym same)
          (subst (λ (n : ℕ). LeadTo 0 0 (opening l) cs n calls (end_before l cs k)) (sym is)
          (subst (λ (z : List ChapterValue). LeadTo 0 0 (opening l) z k calls (end_before l cs k)) whole a.lead)));
      count = ap (λ (z : List ChapterValue). length (entries_of z)) (sym whole) ∙ (a.count ∙ sym same);
      run = subst (λ (z : SlaveValue). Run (opening l) (exchanges (entries_of cs)) z) (sym at)
          (subst (λ (z : List ChapterValue). Run (opening l) (exchanges (entries_of z)) (end_before l cs k)) whole a.run);
    }

-- where the first chapters end, if there is one
pub end_is : (l : LayoutValue) (cs : List ChapterValue) (k : ℕ) → 0 < k → end_before l cs k ≡ (get_or cs (k - 1) empty_chapter).last
end_is l cs zero h = absurd (omega (arith, h))
end_is l cs (suc k) h = let e : suc k - 1 ≡ k = omega arith in ap (λ (j : ℕ). (get_or cs j empty_chapter).last) (sym e)

got : (cs : List ChapterValue) (k : ℕ) (d : ChapterValue) → k < length cs → slice_get cs k ≡ Some (get_or cs k d)
got [] k d h = absurd (omega (arith, h))
got (c ∷ cs) zero d h = refl
got (c ∷ cs) (suc k) d h = got cs k d (omega (arith, h))

-- a chapter that doesn't follow the first k
pub gap_here : (l : LayoutValue) (cs : List ChapterValue) (k calls number before : ℕ) (base : SlaveValue) (c : ChapterValue) → AreFirst l cs k calls → k < length cs → c ≡ get_or cs k c → ¬ (Follows k calls (end_before l cs k) c.number c.before c.base) → IsFirstGap l cs number before base k
gap_here l cs k calls number before base c a low is off = record { calls = calls; at = end_before l cs k; lead = a.lead; gap = inl (c, got cs k c low ∙ ap (λ (x : ChapterValue). Some x) (sym is), off) }

-- the open one, where all before it follow one another
pub gap_open : (l : LayoutValue) (cs : List ChapterValue) (k calls number before : ℕ) (base : SlaveValue) → AreFirst l cs k calls → k ≡ length cs → ¬ (Follows k calls (end_before l cs k) number before base) → IsFirstGap l cs number before base (length cs)
gap_open l cs k calls number before base a all off = subst (λ (j : ℕ). IsFirstGap l cs number before base j) all (record { calls = calls; at = end_before l cs k; lead = a.lead; gap = inr (all, off) })

-- joined chapters and the open one are one run
pub whole_run : (l : LayoutValue) (cs : List ChapterValue) (number before : ℕ) (base w : SlaveValue) (es : List Entry) → AreJoined l cs number before base → Run base (exchanges es) w → Run (opening l) (exchanges (entries_of cs ++ es)) w
whole_run l cs number before base w es j run =
    subst (λ (z : List Exchange). Run (opening l) z w) (sym (map-append (λ (e : Entry). e.exchange) (entries_of cs) es))
    (run_joined (opening l) base w (exchanges (entries_of cs)) (exchanges es) j.run run)
