-- The first chapter that doesn't follow.
use Rattle.std.proofs.Common.{◌≡◌, ◌≢◌, ◌<◌, ◌≤◌, ℕ, zero, suc, ◌+◌, ◌-◌, List, [], ◌∷◌, length, take, get_or, sym, ap, ◌∙◌, subst, inl, inr, ⊎_elim, arith}
use Rattle.std.specs.List.{slice_get}
use Rattle.std.specs.Prelude.{Some}
use Rattle.xcp_memory.specs.Layout.{LayoutValue}
use Rattle.xcp_slave.specs.SlaveValue.{SlaveValue, opening}
use Rattle.xcp_locked.specs.Chapters.{AreJoined, Follows, IsFirstGap, LeadTo}
use Rattle.xcp_locked.specs.private.NoChapter.{empty_chapter}
use Rattle.xcp_locked.specs.LockedSlave.{ChapterValue}
use Rattle.xcp_locked.proofs.JoiningLemmas.{AreFirst, end_before, take_whole}
use Rattle.xcp_locked.proofs.TallyLemmas.{none≢some, some_same}

-- the first k chapters end where the one before number k ends
end_there : (l : LayoutValue) (cs : List ChapterValue) (k : ℕ) → 0 < k → end_before l cs k ≡ (get_or cs (k - 1) empty_chapter).last
end_there l cs zero some = absurd (omega (arith, some))
end_there l cs (suc k) some = let e : suc k - 1 ≡ k = omega arith in ap (λ (j : ℕ). (get_or cs j empty_chapter).last) (sym e)

-- what begins elsewhere doesn't follow
pub begins_elsewhere : (l : LayoutValue) (cs : List ChapterValue) (k calls number before : ℕ) (base : SlaveValue) → 0 < k → base ≢ (get_or cs (k - 1) empty_chapter).last → ¬ Follows k calls (end_before l cs k) number before base
begins_elsewhere l cs k calls number before base some other f = other (f.2 ∙ end_there l cs k some)

-- a chapter of the list doesn't follow those before it
pub gap_within : (l : LayoutValue) (cs : List ChapterValue) (k calls number before : ℕ) (base : SlaveValue) (c : ChapterValue) → AreFirst l cs k calls → slice_get cs k ≡ Some c → ¬ Follows k calls (end_before l cs k) c.number c.before c.base → IsFirstGap l cs number before base k
gap_within l cs k calls number before base c first there other = record {
  calls = calls;
  at = end_before l cs k;
  lead = first.lead;
  gap = inl (c, there, other);
}

-- the open one doesn't follow them
pub gap_behind : (l : LayoutValue) (cs : List ChapterValue) (k calls number before : ℕ) (base : SlaveValue) → AreFirst l cs k calls → k ≡ length cs → ¬ Follows k calls (end_before l cs k) number before base → IsFirstGap l cs number before base k
gap_behind l cs k calls number before base first all other = record {
  calls = calls;
  at = end_before l cs k;
  lead = first.lead;
  gap = inr (all, other);
}

-- chapters lead to one place
one_place : (a n : ℕ) (v : SlaveValue) (cs : List ChapterValue) (k calls : ℕ) (at : SlaveValue) (number before : ℕ) (base : SlaveValue) → LeadTo a n v cs k calls at → LeadTo a n v cs number before base → Follows k calls at number before base
one_place a n v [] k calls at number before base h g = (g.0 ∙ sym h.0, g.1 ∙ sym h.1, g.2 ∙ sym h.2)
one_place a n v (c ∷ cs) k calls at number before base h g = one_place (a + 1) (n + length c.entries) c.last cs k calls at number before base h.3 g.3

-- of chapters that lead on, each follows those before it
member_follows : (a n : ℕ) (v : SlaveValue) (cs : List ChapterValue) (i : ℕ) (c : ChapterValue) (k calls : ℕ) (at : SlaveValue) (number before : ℕ) (base : SlaveValue) → slice_get cs i ≡ Some c → LeadTo a n v (take i cs) k calls at → LeadTo a n v cs number before base → Follows k calls at c.number c.before c.base
member_follows a n v [] i c k calls at number before base there h g = absurd (none≢some c there)
member_follows a n v (d ∷ cs) zero c k calls at number before base there h g =
    subst (λ (x : ChapterValue). Follows k calls at x.number x.before x.base) (some_same d c there) (g.0 ∙ sym h.0, g.1 ∙ sym h.1, g.2 ∙ sym h.2)
member_follows a n v (d ∷ cs) (suc i) c k calls at number before base there h g =
    member_follows (a + 1) (n + length d.entries) d.last cs i c k calls at number before base there h.3 g.3

-- where there is a gap the chapters aren't joined
pub no_join : (l : LayoutValue) (cs : List ChapterValue) (number before : ℕ) (base : SlaveValue) (k : ℕ) → IsFirstGap l cs number before base k → AreJoined l cs number before base → ⊥
no_join l cs number before base k g j =
    ⊎_elim
    (λ w. w.2 (member_follows 0 0 (opening l) cs k w.0 k g.calls g.at number before base w.1 g.lead j.lead))
    (λ w. w.1 (one_place 0 0 (opening l) cs k g.calls g.at number before base (subst (λ (z : List ChapterValue). LeadTo 0 0 (opening l) z k g.calls g.at) (ap (λ (n : ℕ). take n cs) w.0 ∙ take_whole cs) g.lead) j.lead))
    g.gap

low_of : (cs : List ChapterValue) (k : ℕ) (c : ChapterValue) → slice_get cs k ≡ Some c → k < length cs
low_of [] k c there = absurd (none≢some c there)
low_of (d ∷ cs) zero c there = omega arith
low_of (d ∷ cs) (suc k) c there = let low = low_of cs k c there in omega (arith, low)

-- it is one of the chapters, or the open one behind them
pub gap_low : (l : LayoutValue) (cs : List ChapterValue) (number before : ℕ) (base : SlaveValue) (k : ℕ) → IsFirstGap l cs number before base k → k ≤ length cs
gap_low l cs number before base k g =
    ⊎_elim
    (λ w. let low = low_of cs k w.0 w.1 in omega (arith, low))
    (λ w. let all = w.0 in omega (arith, all))
    g.gap
