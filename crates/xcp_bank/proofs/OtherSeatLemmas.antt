-- A step of one seat leaves what the others stand for.
use Rattle.std.proofs.Common.{◌≡◌, ◌≢◌, ℕ, suc, ◌<◌, ◌≤◌, ◌++◌, List, [], ◌∷◌, take, set, sym, ap, ◌∙◌, subst, arith, Some, ⊎_elim}
use mathlib.Core.Option.{some}
use lib.ListN.{get_elem?}
use Rattle.atomic_table.specs.Table.{State}
use Rattle.atomic_table.proofs.Lists.{at_set}
use Rattle.pin_core.specs.State.{Reader, PinState, reader, published, publication_at}
use Rattle.pin_core.specs.StateInvariant.{Lawful}
use Rattle.pin_core.specs.Steps.{Steps}
use Rattle.pin_core.specs.State.{opening}
use Rattle.xcp_bank.specs.PinHistory.{Deed, doer, Grows}
use Rattle.xcp_bank.specs.TableRule.{RecordsAll}
use Rattle.xcp_bank.proofs.HistoryLemmas.{runs_more, records_still, grows_else}
use Rattle.xcp_bank.specs.SeatKnowledge.{Reading, Writing, Known}
use Rattle.xcp_bank.specs.TableRule.{Shows, IsNumbered, StandsFor, StandsForAll, Leads, Banked}

-- who stands for a reader still does where the reader is as it was and the publications only grow
module _ (s t : PinState) (own own' : ℕ → ℕ) (grow : (n : ℕ) → n ≤ published s → take n t.writer.publications ≡ take n s.writer.publications) (below : (r : ℕ) → (reader s r).seen ≤ published s) where
  pub stands_still : (id id' r : ℕ) (x : Reading) → reader t r ≡ reader s r → own' r ≡ id' → StandsFor s own id r x → StandsFor t own' id' r x
  stands_still id id' r x same mine k = record {
    inside = k.inside;
    mine = mine;
    pins = same ∙ k.pins;
    list = k.list ∙ sym (grow x.pins.seen (let b = below r in let e : (reader s r).seen ≡ x.pins.seen = ap (λ (y : Reader). y.seen) k.pins in omega arith));
    past = k.past;
  }

  pub all_still : (id id' : ℕ) (xs : List (ℕ × Reading)) → ((q : ℕ) → own q ≡ id → (reader t q ≡ reader s q) × (own' q ≡ id')) → StandsForAll s own id xs → StandsForAll t own' id' xs
  all_still id id' [] same k = tt
  all_still id id' (y ∷ ys) same k = let here = same y.0 (k.0).mine in (stands_still id id' y.0 y.1 here.0 here.1 k.0, all_still id id' ys same k.1)

module _ (W : ℕ) (t : State (Unit {0}) Known) (b : Banked W t) where
  -- the seat `id` makes a step, after which the core is s and it knows v
  pub seat_step : (id : ℕ) (v : Known) (ws : List ℕ) (s : PinState) → Lawful W s → Shows W ws s
      → ((p : ℕ) → p < published s → IsNumbered W p (publication_at s p))
      → StandsForAll s b.own id v.readers
      → ((w : Writing) → v.writer ≡ Some w → (b.writer_seat ≡ id) × Leads s w)
      → ((q : ℕ) → b.own q ≢ id → reader s q ≡ reader b.core q)
      → ((n : ℕ) → n ≤ published b.core → take n s.writer.publications ≡ take n b.core.writer.publications)
      → (b.writer_seat ≢ id → (w : Writing) → Leads b.core w → Leads s w)
      → (d : Deed) → Steps W b.core d.0 d.1 s → RecordsAll (b.history ++ d ∷ []) v.readers → ((q : ℕ) → b.own q ≢ id → suc q ≢ doer d.0)
      → ((w : Writing) → v.writer ≡ Some w → Grows 0 w.history (b.history ++ d ∷ []) []) → (b.writer_seat ≢ id → 0 ≢ doer d.0)
      → Banked W record { words = ws; homes = t.homes; views = set t.views id v }
  seat_step id v ws s law shows numbered mine lead others grow leads d step records none notes apart = record {
    first = b.first;
    wide = b.wide;
    history = b.history ++ d ∷ [];
    run = runs_more W (opening b.first) b.core s b.history d b.run step;
    recorded = λ j u e. ⊎_elim {A = (j ≡ id) × (v ≡ u)} {B = (j ≢ id) × (get_elem? t.views j ≡ some u)}
        (λ h. subst (λ (z : Known). RecordsAll (b.history ++ d ∷ []) z.readers) h.1 records)
        (λ h. records_still b.history d b.core b.own j u.readers (b.readers j u h.1) (b.recorded j u h.1) (λ q o. none q (λ same. h.0 (sym o ∙ same))))
        (at_set t.views id j v u e);
    noted = λ j u w e is. ⊎_elim {A = (j ≡ id) × (v ≡ u)} {B = (j ≢ id) × (get_elem? t.views j ≡ some u)}
        (λ h. notes w (ap (λ (z : Known). z.writer) h.1 ∙ is))
        (λ h. grows_else 0 w.history b.history [] d (apart (λ same. h.0 (sym (b.writer j u w h.1 is).0 ∙ same))) (b.noted j u w h.1 is))
        (at_set t.views id j v u e);
    core = s;
    own = b.own;
    writer_seat = b.writer_seat;
    lawful = law;
    shows = shows;
    numbered = numbered;
    readers = λ j u e. ⊎_elim {A = (j ≡ id) × (v ≡ u)} {B = (j ≢ id) × (get_elem? t.views j ≡ some u)}
        (λ h. subst (λ (z : ℕ × Known). StandsForAll s b.own z.0 z.1.readers) (λ i. (sym h.0 i, h.1 i)) mine)
        (λ h. all_still b.core s b.own b.own grow (λ r. (b.lawful.seen r).most) j j u.readers (λ q o. (others q (λ same. h.0 (sym o ∙ same)), o)) (b.readers j u h.1))
        (at_set t.views id j v u e);
    writer = λ j u w e is. ⊎_elim {A = (j ≡ id) × (v ≡ u)} {B = (j ≢ id) × (get_elem? t.views j ≡ some u)}
        (λ h. let l = lead w (ap (λ (z : Known). z.writer) h.1 ∙ is) in (l.0 ∙ sym h.0, l.1))
        (λ h. let l = b.writer j u w h.1 is in (l.0, leads (λ same. h.0 (sym l.0 ∙ same)) w l.1))
        (at_set t.views id j v u e);
  }
