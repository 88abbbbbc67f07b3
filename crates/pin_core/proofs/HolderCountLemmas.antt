-- Counting readers: who holds a buffer, and who is gone.
use Rattle.std.proofs.Common.{◌≡◌, ◌≢◌, ℕ, suc, eq-eqb, ne_eqb, lt_of_not-le, ◌+◌, ◌<◌, ◌≤◌, Bool, true, false, cond, eqb, List, [], ◌∷◌, length, set, get_or, sym, refl, ap, ◌∙◌, arith, Option, Some, None, sum_by}
use Rattle.std.proofs.lemmas.List.Sums.{sum_by-set, sum_by-cons, get_or-le-sum_by}
use Rattle.std.proofs.lemmas.List.{get_or_past}
use Rattle.std.proofs.lemmas.Option.{none-some}
use Rattle.pin_core.specs.State.{Reader, PinState, newcomer, reader, leavings_of}
use Rattle.pin_core.specs.StateInvariant.{at_buffer, holders, left_for_good, departed, CountsTheCurrent, KnowsItsPlace}

-- a sum over the readers, after a change of one
module _ (f : Reader → ℕ) (rs : List Reader) (r : ℕ) (x : Reader) (inside : r < length rs) where
  pub same_sum : f x ≡ f (get_or rs r newcomer) → sum_by f (set rs r x) ≡ sum_by f rs
  same_sum e = let s = sum_by-set f rs r x newcomer inside in omega arith

  pub sum_more : f x ≡ f (get_or rs r newcomer) + 1 → sum_by f (set rs r x) ≡ sum_by f rs + 1
  sum_more e = let s = sum_by-set f rs r x newcomer inside in omega arith

  pub sum_less : f x + 1 ≡ f (get_or rs r newcomer) → sum_by f (set rs r x) + 1 ≡ sum_by f rs
  sum_less e = let s = sum_by-set f rs r x newcomer inside in omega arith

-- who holds a buffer counts 1 among its holders
pub at_same : (b p : ℕ) → at_buffer b (Some (b, p)) ≡ 1
at_same b p = ap (λ (t : Bool). cond t 1 0) (eq-eqb b b refl)

-- who holds one buffer counts 0 among the holders of another
pub at_other : (b c p : ℕ) → b ≢ c → at_buffer c (Some (b, p)) ≡ 0
at_other b c p ne = ap (λ (t : Bool). cond t 1 0) (ne_eqb b c ne)

-- who holds something is one of the readers
pub held_inside : (rs : List Reader) (r : ℕ) (h : ℕ × ℕ) → (get_or rs r newcomer).held ≡ Some h → r < length rs
held_inside rs r h e = lt_of_not-le (λ (past : length rs ≤ r). none-some h (ap (λ (y : Reader). y.held) (sym (get_or_past rs r newcomer past)) ∙ e))

-- a buffer that no reader holds has 0 holders
pub no_holders : (b : ℕ) (rs : List Reader) → ((r p : ℕ) → (get_or rs r newcomer).held ≢ Some (b, p)) → holders b rs ≡ 0
no_holders b [] none = refl
no_holders b (x ∷ xs) none = sum_by-cons (λ (y : Reader). at_buffer b y.held) x xs ∙ (
    let here : at_buffer b x.held ≡ 0 = nobody_at x.held (λ p. none 0 p) in
    let there : holders b xs ≡ 0 = no_holders b xs (λ r p. none (suc r) p) in omega arith)
  where
    nobody_at : (o : Option (ℕ × ℕ)) → ((p : ℕ) → o ≢ Some (b, p)) → at_buffer b o ≡ 0
    nobody_at None never = refl
    nobody_at (Some h) never = at_other h.0 b h.1 (λ e. never h.1 (ap (λ (k : ℕ). Some (k, h.1)) e))

-- a reader that is gone holds nothing, so each reader counts once at most
pub crowd : (b : ℕ) (rs : List Reader) → ((r : ℕ) → (get_or rs r newcomer).gone ≡ true → (get_or rs r newcomer).held ≡ None) → holders b rs + departed rs ≤ length rs
crowd b [] away = omega arith
crowd b (x ∷ xs) away =
    let here : at_buffer b x.held + left_for_good x ≤ 1 = once x.held x.gone (away 0) in
    let there : holders b xs + departed xs ≤ length xs = crowd b xs (λ r. away (suc r)) in
    let h = sum_by-cons (λ (y : Reader). at_buffer b y.held) x xs in let g = sum_by-cons left_for_good x xs in omega arith
  where
    small : (o : Option (ℕ × ℕ)) → at_buffer b o ≤ 1
    small None = omega arith
    small (Some h) = at_most (eqb h.0 b)
      where
        at_most : (t : Bool) → cond t 1 0 ≤ 1
        at_most true = omega arith
        at_most false = omega arith

    once : (o : Option (ℕ × ℕ)) (t : Bool) → (t ≡ true → o ≡ None) → at_buffer b o + cond t 1 0 ≤ 1
    once o true h = let e : at_buffer b o ≡ 0 = ap (at_buffer b) (h refl) in omega arith
    once o false h = let e = small o in omega arith

-- who holds a buffer is counted there
pub counted_once : (s : PinState) (r b p : ℕ) → (reader s r).held ≡ Some (b, p) → 0 < holders b s.readers
counted_once s r b p h =
    let f : Reader → ℕ = λ y. at_buffer b y.held in
    let one : f (reader s r) ≡ 1 = ap (at_buffer b) h ∙ at_same b p in
    let le : f (reader s r) ≤ sum_by f s.readers = get_or-le-sum_by f s.readers r newcomer (held_inside s.readers r (b, p) h) in
    omega arith

-- the bound on the count follows from the rest
pub counts : (s : PinState) → length s.readers ≡ 6 → ((r : ℕ) → KnowsItsPlace s.index (reader s r)) → s.count ≡ holders s.index s.readers + leavings_of s s.index → leavings_of s s.index ≤ departed s.readers → CountsTheCurrent s
counts s seats places exact left = record {
  exact = exact;
  left = left;
  few = (let c = crowd s.index s.readers (λ r. (places r).away) in omega arith);
}
