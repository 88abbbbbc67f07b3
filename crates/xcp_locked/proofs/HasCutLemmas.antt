-- What a task has cut, cycle by cycle.
use Rattle.std.proofs.Common.{◌≡◌, ℕ, ◌+◌, ◌≤◌, [], ◌∷◌, ◌++◌, false, length, refl, sym, ap, ◌∙◌, append_assoc, append-nil, length-append, subst, arith}
use Rattle.std.proofs.lemmas.List.Elements.{All-append, All-cons, All-nil}
use Rattle.xcp_locked.specs.Excerpts.{ChaptersValue, Way, cuts_at_stores}
use Rattle.xcp_locked.specs.LockedSlave.{ChapterValue, LockedValue}
use Rattle.xcp_locked.specs.Tasks.{HasCut}
use Rattle.std.specs.Prelude.{Option, Some}
use Rattle.xcp_locked.specs.private.TaskSteps.{CutsFull}

-- a chapter of at least so many calls
abbrev HasCalls : ℕ → ChapterValue → Type 0
HasCalls chapter c = chapter ≤ length c.entries

-- nothing was cut
pub cut_nothing : (cycles chapter task : ℕ) (old new : ChaptersValue) → new ≡ old → HasCut cycles chapter task old new
cut_nothing cycles chapter task old new same = record { more = []; new_is = ap (λ (c : ChaptersValue). c.items) same ∙ sym (append-nil old.items); one_a_cycle = omega arith; full = λ _. All-nil (HasCalls chapter); first_only = λ _. refl; way = ap (λ (c : ChaptersValue). c.way) same }

-- task 0 cut one chapter, of enough calls where stores end none
pub cut_one : (chapter task : ℕ) (old new : ChaptersValue) (c : ChapterValue) → task ≡ 0 → new.items ≡ old.items ++ c ∷ [] → new.way ≡ old.way → (cuts_at_stores old.way ≡ false → chapter ≤ length c.entries) → HasCut 1 chapter task old new
cut_one chapter task old new c first items way enough = record {
  more = c ∷ [];
  new_is = items;
  one_a_cycle = omega arith;
  full = λ never. All-cons (HasCalls chapter) c [] (enough never) (All-nil (HasCalls chapter));
  first_only = λ other. absurd (other first);
  way = way;
}

-- one cycle more
pub cut_more : (n chapter task : ℕ) (a b c : ChaptersValue) → HasCut n chapter task a b → HasCut 1 chapter task b c → HasCut (n + 1) chapter task a c
cut_more n chapter task a b c was one = record {
  more = was.more ++ one.more;
  new_is = one.new_is ∙ (ap (λ z. z ++ one.more) was.new_is ∙ append_assoc a.items was.more one.more);
  one_a_cycle = let all = length-append was.more one.more in let few = was.one_a_cycle in let last = one.one_a_cycle in omega (arith, all, few, last);
  full = λ never. All-append (HasCalls chapter) was.more one.more (was.full never) (one.full (subst (λ (w : Option Way). cuts_at_stores w ≡ false) (sym was.way) never));
  first_only = λ other i. was.first_only other i ++ one.first_only other i;
  way = one.way ∙ was.way;
}

-- what was cut in so many cycles is not too much for more of them
pub cut_less : (n cycles chapter task : ℕ) (old new : ChaptersValue) → n ≤ cycles → HasCut n chapter task old new → HasCut cycles chapter task old new
cut_less n cycles chapter task old new le h = record { more = h.more; new_is = h.new_is; one_a_cycle = let few = h.one_a_cycle in omega (arith, le, few); full = h.full; first_only = h.first_only; way = h.way }

-- a chapter that was cut where it was full has as many calls as it had to have
pub enough_calls : (chapter least : ℕ) (l l' : LockedValue) (taken : Option ChapterValue) (cut : ChapterValue) → taken ≡ Some cut → least ≡ chapter → CutsFull least l l' taken → chapter ≤ length cut.entries
enough_calls chapter least l l' taken cut is same h =
    let full = subst (λ (o : Option ChapterValue). CutsFull least l l' o) is h in
    subst (λ (n : ℕ). n ≤ length cut.entries) same (subst (λ (c : ChapterValue). least ≤ length c.entries) (sym full.2) full.0.0)
