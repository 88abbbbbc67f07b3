-- Why a Look can't be noted that didn't look: the noted Look stands where its answer is the current buffer.
use Rattle.std.proofs.Common.{◌≡◌, ◌≢◌, ◌<◌, ℕ, zero, suc, ◌⊎◌, inl, inr, ⊎_elim, List, [], ◌∷◌, ◌++◌, set, refl, sym, Some, ap, ◌∙◌, subst, append_assoc, eq-eqb, Bool, cond, arith, length}
use Rattle.std.proofs.lemmas.List.{append-nil}
use mathlib.Core.Option.{some, some-ne-none}
use lib.ListN.{get_elem?}
use Rattle.atomic_table.specs.Table.{State}
use Rattle.atomic_table.proofs.Lists.{set_here, set_else}
use Rattle.pin_core.specs.declared.events.Event.{Event}
use Rattle.pin_core.specs.declared.events.Event.TheVariants as ev
use Rattle.pin_core.specs.declared.events.Seen.{Seen}
use Rattle.pin_core.specs.declared.events.Seen.TheVariants as an
use Rattle.pin_core.specs.State.{PinState, opening}
use Rattle.pin_core.specs.Steps.{Steps, Runs}
use Rattle.xcp_bank.specs.PinHistory.{Deed, deed_events, answers_of, doer, deeds_by, Does, looked_at}
use Rattle.xcp_bank.specs.SeatKnowledge.{Reading, Writing, Known, one_reader}
use Rattle.xcp_bank.specs.TableRule.{Banked}
use Rattle.xcp_bank.proofs.HistoryLemmas.{by_app, head_same, tail_same}

head_is : (a b : Deed) (l m : List Deed) → a ∷ l ≡ b ∷ m → a ≡ b
head_is a b l m e = cc

tail_is : (a b : Deed) (l m : List Deed) → a ∷ l ≡ b ∷ m → l ≡ m
tail_is a b l m e = cc

below : {A : Type 0} (l : List A) (i : ℕ) (a : A) → get_elem? l i ≡ some a → i < length l
below [] zero a e = absurd (some-ne-none a (sym e))
below [] (suc i) a e = absurd (some-ne-none a (sym e))
below (x ∷ l) zero a e = omega arith
below (x ∷ l) (suc i) a e = let h = below l i a e in omega arith

-- of two beginnings of one list one begins the other
compare : (a b m n : List Deed) → a ++ m ≡ b ++ n → ((q : List Deed) × (b ≡ a ++ q) × (m ≡ q ++ n)) ⊎ ((q : List Deed) × (a ≡ b ++ q) × (n ≡ q ++ m))
compare [] b m n e = inl (b, refl, e)
compare (x ∷ a) [] m n e = inr (x ∷ a, refl, sym e)
compare (x ∷ a) (y ∷ b) m n e = ⊎_elim {A = (q : List Deed) × (b ≡ a ++ q) × (m ≡ q ++ n)} {B = (q : List Deed) × (a ≡ b ++ q) × (n ≡ q ++ m)}
    (λ h. inl (h.0, (λ i. sym (head_is x y (a ++ m) (b ++ n) e) i ∷ h.1 i), h.2))
    (λ h. inr (h.0, (λ i. head_is x y (a ++ m) (b ++ n) e i ∷ h.1 i), h.2))
    (compare a b m n (tail_is x y (a ++ m) (b ++ n) e))

cancel : (a m n : List Deed) → a ++ m ≡ a ++ n → m ≡ n
cancel [] m n e = e
cancel (x ∷ a) m n e = cancel a m n (tail_is x x (a ++ m) (a ++ n) e)

not_empty : (d : Deed) (l : List Deed) → d ∷ l ≢ []
not_empty d l e = let n : suc (length l) ≡ 0 = ap length e in absurd (omega arith)

none_left : (l m : List Deed) → l ++ m ≡ [] → l ≡ []
none_left [] m e = refl
none_left (d ∷ l) m e = absurd (not_empty d (l ++ m) e)

none_right : (l m : List Deed) → l ++ m ≡ [] → m ≡ []
none_right [] m e = e
none_right (d ∷ l) m e = absurd (not_empty d (l ++ m) e)

-- a run of two parts
pub runs_split : (W : ℕ) (s t : PinState) (ds es : List Deed) → Runs W s (deed_events (ds ++ es)) (answers_of (ds ++ es)) t → (u : PinState) × Runs W u (deed_events es) (answers_of es) t
runs_split W s t [] es r = (s, r)
runs_split W s t (d ∷ ds) es r = runs_split W r.1 t ds es (subst (λ (l : List Seen). Runs W r.1 (deed_events (ds ++ es)) l t) (sym (tail_same d.1 r.0 (answers_of (ds ++ es)) r.2 r.3)) r.5)

-- a reader's step leaves the current buffer, and so do steps of readers alone
index_step : (W : ℕ) (s t : PinState) (e : Event) (a : Seen) → doer e ≢ 0 → Steps W s e a t → t.index ≡ s.index
index_step W s t (ev.Look r) a ne st = ap (λ (z : PinState). z.index) st.2
index_step W s t (ev.Unpin r last) a ne st = ap (λ (z : PinState). z.index) st.4
index_step W s t (ev.Pin r) a ne st = ap (λ (z : PinState). z.index) st.2
index_step W s t (ev.Read r k) a ne st = ap (λ (z : PinState). z.index) st.4
index_step W s t (ev.Scan b) a ne st = absurd (ne refl)
index_step W s t (ev.Reset b) a ne st = absurd (ne refl)
index_step W s t (ev.Write k x) a ne st = absurd (ne refl)
index_step W s t ev.Publish a ne st = absurd (ne refl)

not_mine : (d : Deed) (ds : List Deed) → deeds_by 0 (d ∷ ds) ≡ [] → doer d.0 ≢ 0
not_mine d ds e z = not_empty d (deeds_by 0 ds) (sym (ap (λ (t : Bool). cond t (d ∷ deeds_by 0 ds) (deeds_by 0 ds)) (eq-eqb 0 (doer d.0) (sym z))) ∙ e)

index_kept : (W : ℕ) (s t : PinState) (ds : List Deed) → deeds_by 0 ds ≡ [] → Runs W s (deed_events ds) (answers_of ds) t → t.index ≡ s.index
index_kept W s t [] none r = ap (λ (z : PinState). z.index) r.1
index_kept W s t (d ∷ ds) none r =
    let none' : deeds_by 0 (d ∷ []) ++ deeds_by 0 ds ≡ [] = sym (by_app 0 (d ∷ []) ds) ∙ none in
    index_kept W r.1 t ds (none_right (deeds_by 0 (d ∷ [])) (deeds_by 0 ds) none') (subst (λ (l : List Seen). Runs W r.1 (deed_events ds) l t) (sym (tail_same d.1 r.0 (answers_of ds) r.2 r.3)) r.5)
    ∙ index_step W s r.1 d.0 d.1 (not_mine d ds none) (subst (λ (z : Seen). Steps W s d.0 z r.1) (sym (head_same d.1 r.0 (answers_of ds) r.2 r.3)) r.4)

-- a Look and what follows without the writer: it was answered by the buffer that is current at the end
look_tells_the_end : (W : ℕ) (s t : PinState) (r i : ℕ) (ds : List Deed) → deeds_by 0 (looked_at r i ∷ ds) ≡ [] → Runs W s (deed_events (looked_at r i ∷ ds)) (answers_of (looked_at r i ∷ ds)) t → i ≡ t.index
look_tells_the_end W s t r i ds none k =
    let answer : an.Index i ≡ an.Index s.index = head_same (an.Index i) k.0 (answers_of ds) k.2 k.3 ∙ k.4.1 in
    let same : i ≡ s.index = cc in
    let kept : t.index ≡ s.index = index_kept W s t (looked_at r i ∷ ds) none k in
    same ∙ sym kept

module _ (W : ℕ) (t : State (Unit {0}) Known) (b : Banked W t) (id r : ℕ) (x : Reading) (at : get_elem? t.views id ≡ some (one_reader r x)) (none : x.pending ≡ [])
    (j : ℕ) (v : Known) (w : Writing) (other : j ≢ id) (there : get_elem? t.views j ≡ some v) (leads : v.writer ≡ Some w)
    (ws : List ℕ) (y : Reading) (i : ℕ) where
  abbrev after : State (Unit {0}) Known
  after = record { words = ws; homes = t.homes; views = set t.views id (one_reader r y) }

  -- what the reader notes is not in what the writer has
  fresh : (ds : List Deed) → Does (suc r) x.history x.pending y.history y.pending (looked_at r i ∷ []) → y.pending ≡ [] → w.history ≡ y.history ++ ds → ⊥
  fresh ds did settled is =
      let old = (b.recorded id (one_reader r x) at).0.grows in
      let led = b.noted j v w there leads in
      let whole : x.history ++ old.more ≡ x.history ++ (did.more ++ (ds ++ led.more)) =
      sym old.is ∙ (led.is ∙ (ap (λ (l : List Deed). l ++ led.more) is ∙ (append_assoc y.history ds led.more ∙ (ap (λ (l : List Deed). l ++ (ds ++ led.more)) did.is ∙ append_assoc x.history did.more (ds ++ led.more))))) in
      let tail : old.more ≡ did.more ++ (ds ++ led.more) = cancel x.history old.more (did.more ++ (ds ++ led.more)) whole in
      let mine : deeds_by (suc r) did.more ++ deeds_by (suc r) (ds ++ led.more) ≡ [] = sym (by_app (suc r) did.more (ds ++ led.more)) ∙ (ap (deeds_by (suc r)) (sym tail) ∙ (old.own_is ∙ none)) in
      let own : deeds_by (suc r) did.more ≡ looked_at r i ∷ [] =
      sym (append-nil (deeds_by (suc r) did.more)) ∙ (ap (λ (l : List Deed). deeds_by (suc r) did.more ++ l) (sym settled) ∙ (did.own_is ∙ ap (λ (l : List Deed). l ++ looked_at r i ∷ []) none)) in
      not_empty (looked_at r i) [] (sym own ∙ none_left (deeds_by (suc r) did.more) (deeds_by (suc r) (ds ++ led.more)) mine)

  -- Whatever the step is, the Look that it notes was answered by the buffer that is current, and that is the one the writer knows.
  pub noted_looks_look : Banked W after → Does (suc r) x.history x.pending y.history y.pending (looked_at r i ∷ []) → y.pending ≡ [] → (front : List Deed) → y.history ≡ front ++ looked_at r i ∷ [] → i ≡ w.current
  noted_looks_look b' did settled front ends =
      let here : get_elem? after.views id ≡ some (one_reader r y) = set_here t.views id (one_reader r y) (below t.views id (one_reader r x) at) in
      let there' : get_elem? after.views j ≡ some v = set_else t.views id j (one_reader r y) other ∙ there in
      let mine = (b'.recorded id (one_reader r y) here).0.grows in
      let led = b'.noted j v w there' leads in
      let d : Deed = looked_at r i in
      let joint : front ++ (d ∷ mine.more) ≡ w.history ++ led.more = sym (append_assoc front (d ∷ []) mine.more) ∙ (ap (λ (l : List Deed). l ++ mine.more) (sym ends) ∙ (sym mine.is ∙ led.is)) in
      let last = (b'.writer j v w there' leads).1 in
      let total : b'.history ≡ front ++ (d ∷ mine.more) = mine.is ∙ (ap (λ (l : List Deed). l ++ mine.more) ends ∙ append_assoc front (d ∷ []) mine.more) in
      let by_run : deeds_by 0 (d ∷ mine.more) ≡ [] → i ≡ w.current = λ quiet.
      let run = runs_split W (opening b'.first) b'.core front (d ∷ mine.more) (subst (λ (l : List Deed). Runs W (opening b'.first) (deed_events l) (answers_of l) b'.core) total b'.run) in
      look_tells_the_end W run.0 b'.core r i mine.more quiet run.1 ∙ last.current in
      ⊎_elim {A = (q : List Deed) × (w.history ≡ front ++ q) × (d ∷ mine.more ≡ q ++ led.more)} {B = (q : List Deed) × (front ≡ w.history ++ q) × (led.more ≡ q ++ (d ∷ mine.more))}
      (λ h. starts h.0 front d mine.more led.more h.1 h.2 led.own_is did settled ends by_run)
      (λ h. by_run (none_right (deeds_by 0 h.0) (deeds_by 0 (d ∷ mine.more)) (sym (by_app 0 h.0 (d ∷ mine.more)) ∙ (ap (deeds_by 0) (sym h.2) ∙ led.own_is))))
      (compare front w.history (d ∷ mine.more) led.more joint)
    where
      starts : (q front : List Deed) (d : Deed) (m n : List Deed) → w.history ≡ front ++ q → d ∷ m ≡ q ++ n → deeds_by 0 n ≡ [] → Does (suc r) x.history x.pending y.history y.pending (looked_at r i ∷ []) → y.pending ≡ [] → y.history ≡ front ++ d ∷ [] → (deeds_by 0 (d ∷ m) ≡ [] → i ≡ w.current) → i ≡ w.current
      starts [] front d m n is e quiet did settled ends k = k (ap (deeds_by 0) e ∙ quiet)
      starts (c ∷ q) front d m n is e quiet did settled ends k =
          let same : d ≡ c = head_is d c m (q ++ n) e in
          absurd (fresh q did settled (is ∙ (ap (λ (z : Deed). front ++ z ∷ q) (sym same) ∙ (sym (append_assoc front (d ∷ []) q) ∙ ap (λ (l : List Deed). l ++ q) (sym ends)))))
