-- Cutting a seat off the first one keeps the rule.
use Rattle.std.proofs.Common.{◌≡◌, ◌≢◌, ℕ, zero, suc, ◌<◌, ◌≤◌, Bool, cond, eqb, eq-eqb, ne_eqb, List, [], ◌∷◌, ◌++◌, length, set, sym, refl, ap, ◌∙◌, subst, arith, Some, ⊎_elim, ◌⊎◌, inl, inr}
use Rattle.std.proofs.lemmas.Option.{none-some}
use mathlib.Core.Option.{some, some-injective, some-ne-none}
use lib.ListN.{get_elem?}
use Rattle.atomic_table.specs.Table.{Splits}
use Rattle.atomic_table.proofs.Lists.{at_set}
use Rattle.pin_core.specs.State.{PinState, reader, published}
use Rattle.xcp_bank.specs.SeatKnowledge.{Writing, Known, one_reader, starting}
use Rattle.xcp_bank.specs.private.Everybody.{waiting, everybody}
use Rattle.xcp_bank.specs.TableRule.{RecordsAll, StandsFor, StandsForAll, Leads, Banked, IsBank}
use Rattle.xcp_bank.specs.private.SeatSplits.{without_first, only_first}
use Rattle.xcp_bank.proofs.OtherSeatLemmas.{stands_still, all_still}

-- an element of a list with one added at its end is an old one, at its old place, or the new one, at the end
pub at_end : {A : Type 0} (l : List A) (a b : A) (j : ℕ) → get_elem? (l ++ a ∷ []) j ≡ some b → ((j < length l) × (get_elem? l j ≡ some b)) ⊎ ((j ≡ length l) × (a ≡ b))
at_end [] a b zero e = inr (refl, some-injective a b e)
at_end [] a b (suc j) e = absurd (some-ne-none b (sym e))
at_end (x ∷ xs) a b zero e = inl (omega arith, e)
at_end (x ∷ xs) a b (suc j) e = ⊎_elim {A = (j < length xs) × (get_elem? xs j ≡ some b)} {B = (j ≡ length xs) × (a ≡ b)} (λ h. let h₀ = h.0 in inl (omega arith, h.1)) (λ h. inr (ap suc h.0, h.1)) (at_end xs a b j e)

-- the reader n goes to the seat m
abbrev pub moved_to : (ℕ → ℕ) → ℕ → ℕ → ℕ → ℕ
moved_to own n m q = cond (eqb q n) m (own q)

-- a reader that goes to a seat is at that seat
pub moved_here : (own : ℕ → ℕ) (n m : ℕ) → moved_to own n m n ≡ m
moved_here own n m = ap (λ (t : Bool). cond t m (own n)) (eq-eqb n n refl)

-- every other reader stays at its seat
pub moved_else : (own : ℕ → ℕ) (n m q : ℕ) → q ≢ n → moved_to own n m q ≡ own q
moved_else own n m q ne = ap (λ (t : Bool). cond t m (own q)) (ne_eqb q n ne)

waiting_still : (s : PinState) (own : ℕ → ℕ) (id n m k : ℕ) (words : List ℕ) → k ≤ n → ((r : ℕ) → (reader s r).seen ≤ published s) → StandsForAll s own id (waiting k words) → StandsForAll s (moved_to own n m) id (waiting k words)
waiting_still s own id n m zero words le below h = tt
waiting_still s own id n m (suc k) words le below h = (
  stands_still s s own (moved_to own n m) (λ i l. refl) below id id k (starting words) refl (moved_else own n m k (λ e. omega arith) ∙ (h.0).mine) h.0,
  waiting_still s own id n m k words (omega arith) below h.1,
)

-- cutting the last of its readers, none of which has made a step, off the first seat keeps the rule
pub cut_splits : (W id n : ℕ) (words : List ℕ) → Splits (Banked W) id (everybody (suc n) words) (everybody n words) (one_reader n (starting words))
cut_splits W id n words t b at =
    let s = b.core in
    let m : ℕ = length (set t.views id (everybody n words)) in
    let own' : ℕ → ℕ = moved_to b.own n m in
    let mine = b.readers id (everybody (suc n) words) at in
    let below : (r : ℕ) → (reader s r).seen ≤ published s = λ r. (b.lawful.seen r).most in
    let here : StandsFor s b.own id n (starting words) = mine.0 in
    let kept : (j : ℕ) (u : Known) → get_elem? (set t.views id (everybody n words)) j ≡ some u → StandsForAll s own' j u.readers = λ j u e.
    ⊎_elim {A = (j ≡ id) × (everybody n words ≡ u)} {B = (j ≢ id) × (get_elem? t.views j ≡ some u)}
    (λ h. subst (λ (z : ℕ × Known). StandsForAll s own' z.0 z.1.readers) (λ i. (sym h.0 i, h.1 i)) (waiting_still s b.own id n m n words (omega arith) below mine.1))
    (λ h. all_still s s b.own own' (λ i l. refl) below j j u.readers (λ q o. (refl, moved_else b.own n m q (λ e'. h.0 (sym o ∙ (ap b.own e' ∙ here.mine))) ∙ o)) (b.readers j u h.1))
    (at_set t.views id j (everybody n words) u e) in
    let led : (j : ℕ) (u : Known) (w : Writing) → get_elem? (set t.views id (everybody n words)) j ≡ some u → u.writer ≡ Some w → (b.writer_seat ≡ j) × Leads s w = λ j u w e is.
    ⊎_elim {A = (j ≡ id) × (everybody n words ≡ u)} {B = (j ≢ id) × (get_elem? t.views j ≡ some u)}
    (λ h. let l = b.writer id (everybody (suc n) words) w at (ap (λ (z : Known). z.writer) h.1 ∙ is) in (l.0 ∙ sym h.0, l.1))
    (λ h. b.writer j u w h.1 is)
    (at_set t.views id j (everybody n words) u e) in
    record {
      core = s;
      own = own';
      writer_seat = b.writer_seat;
      lawful = b.lawful;
      shows = b.shows;
      numbered = b.numbered;
      first = b.first;
      wide = b.wide;
      history = b.history;
      run = b.run;
      recorded = λ j u e. (let c = b.recorded id (everybody (suc n) words) at in ⊎_elim {A = (j < m) × (get_elem? (set t.views id (everybody n words)) j ≡ some u)} {B = (j ≡ m) × (one_reader n (starting words) ≡ u)}
          (λ h. ⊎_elim {A = (j ≡ id) × (everybody n words ≡ u)} {B = (j ≢ id) × (get_elem? t.views j ≡ some u)}
          (λ g. subst (λ (z : Known). RecordsAll b.history z.readers) g.1 c.1)
          (λ g. b.recorded j u g.1)
          (at_set t.views id j (everybody n words) u h.1))
          (λ h. subst (λ (z : Known). RecordsAll b.history z.readers) h.1 (c.0, tt))
          (at_end (set t.views id (everybody n words)) (one_reader n (starting words)) u j e));
      noted = λ j u w e is. ⊎_elim {A = (j < m) × (get_elem? (set t.views id (everybody n words)) j ≡ some u)} {B = (j ≡ m) × (one_reader n (starting words) ≡ u)}
          (λ h. ⊎_elim {A = (j ≡ id) × (everybody n words ≡ u)} {B = (j ≢ id) × (get_elem? t.views j ≡ some u)}
          (λ g. b.noted id (everybody (suc n) words) w at (ap (λ (z : Known). z.writer) g.1 ∙ is))
          (λ g. b.noted j u w g.1 is)
          (at_set t.views id j (everybody n words) u h.1))
          (λ h. absurd (none-some w (ap (λ (z : Known). z.writer) h.1 ∙ is)))
          (at_end (set t.views id (everybody n words)) (one_reader n (starting words)) u j e);
      readers = λ j u e. ⊎_elim {A = (j < m) × (get_elem? (set t.views id (everybody n words)) j ≡ some u)} {B = (j ≡ m) × (one_reader n (starting words) ≡ u)}
          (λ h. kept j u h.1)
          (λ h. subst (λ (z : ℕ × Known). StandsForAll s own' z.0 z.1.readers) (λ i. (sym h.0 i, h.1 i))
          (stands_still s s b.own own' (λ i l. refl) below id m n (starting words) refl (moved_here b.own n m) here, tt))
          (at_end (set t.views id (everybody n words)) (one_reader n (starting words)) u j e);
      writer = λ j u w e is. ⊎_elim {A = (j < m) × (get_elem? (set t.views id (everybody n words)) j ≡ some u)} {B = (j ≡ m) × (one_reader n (starting words) ≡ u)}
          (λ h. led j u w h.1 is)
          (λ h. absurd (none-some w (ap (λ (z : Known). z.writer) h.1 ∙ is)))
          (at_end (set t.views id (everybody n words)) (one_reader n (starting words)) u j e);
    }

-- the first seat may be cut into the last of its readers and the writer with the other readers
pub cut_allowed : (id n : ℕ) (words : List ℕ) (v : Known) → v ≡ everybody (suc n) words → Splits IsBank id v (without_first v) (only_first v)
cut_allowed id n words v is = subst (λ (u : Known). Splits IsBank id u (without_first u) (only_first u)) (sym is) (λ t b at. cut_splits (length t.homes) id n words t b at)
