-- A reader's seat is joined with the writer's and cut off again; both loads are Looks of the reader.
use Rattle.std.proofs.Common.{◌≡◌, ◌≢◌, ℕ, suc, ◌<◌, ◌++◌, [], ◌∷◌, List, length, take, set, sym, refl, ap, ◌∙◌, subst, arith, ⊎_elim, take_all, get_or-set_same, get_or-set_other, false}
use Rattle.std.proofs.lemmas.Option.{none-some}
use mathlib.Core.Option.{some}
use lib.ListN.{get_elem?}
use Rattle.atomic_table.specs.Table.{State, Splits, Joins}
use Rattle.atomic_table.proofs.Lists.{at_set, set_else}
use Rattle.pin_core.specs.State.{Reader, Writer, PinState, reader, newcomer, published}
use Rattle.pin_core.specs.Effects.{looking, after_look}
use Rattle.pin_core.specs.StateInvariant.{Lawful, at_buffer}
use Rattle.pin_core.proofs.HolderCountLemmas.{same_sum}
use Rattle.pin_core.proofs.ReaderStepLemmas.{look_keeps}
use mathlib.Core.List.{IsPrefix}
use Rattle.xcp_bank.specs.SeatKnowledge.{AllBegin, Reading, Writing, Known, one_reader, nobody}
use Rattle.xcp_bank.specs.private.Everybody.{the_writer}
use Rattle.xcp_bank.specs.TableRule.{Shows, StandsFor, StandsForAll, Leads, Banked, IsBank}
use Rattle.xcp_bank.specs.private.SeatSplits.{when_joined, when_parted, together, writer_alone, readers_apart, both_of}
use Rattle.xcp_bank.proofs.PrefixLemmas.{all_again}
use Rattle.xcp_bank.proofs.ReaderRuleLemmas.{stands_begins, same_suc, writes_none}
use Rattle.xcp_bank.proofs.OtherSeatLemmas.{all_still}
use Rattle.pin_core.specs.declared.events.Seen.TheVariants as an
use Rattle.pin_core.specs.State.{opening}
use Rattle.xcp_bank.specs.PinHistory.{Deed, looked_at}
use Rattle.xcp_bank.specs.TableRule.{RecordsAll}
use Rattle.xcp_bank.proofs.HistoryLemmas.{runs_more, records_still, grows_own, grows_else, begins_whole}
use Rattle.xcp_bank.proofs.SeatSplitLemmas.{at_end, moved_to, moved_here, moved_else}

-- a Look of the reader r, whose seat is then m
module _ (W : ℕ) (t : State (Unit {0}) Known) (b : Banked W t) (id r m : ℕ) (x : Reading) (w : Writing) (mine : StandsFor b.core b.own id r x) (here : x.pins.gone ≡ false) (leads : Leads b.core w) where
  abbrev s : PinState
  s = b.core

  abbrev after : PinState
  after = after_look b.core r

  abbrev own' : ℕ → ℕ
  own' = moved_to b.own r m

  inside : r < length b.core.readers
  inside = let l = b.lawful.sizes.seats in let i = mine.inside in omega arith

  pub law : Lawful W after
  law = look_keeps W s r b.lawful (mine.inside, ap (λ (y : Reader). y.gone) mine.pins ∙ here)

  pub shows : Shows W t.words after
  shows = record { size = b.shows.size; head = b.shows.head; left = b.shows.left; image = b.shows.image }

  -- what the reader knows then, whichever of its lists it calls past
  stands_by : (y : Reading) → y.pins ≡ (when_joined w r x).pins → y.list ≡ w.pins.publications → AllBegin y.past y.list → StandsFor after own' m r y
  stands_by y pins list past =
      let z : Reader = looking s.index (published s) (reader s r) in
      let known : ◌≡◌ {A = Reader} (looking s.index (published s) x.pins) (when_joined w r x).pins = λ i. record { held = x.pins.held; looked = leads.current i; seen = length (leads.pins i).publications; gone = x.pins.gone } in
      let whole : take (length w.pins.publications) s.writer.publications ≡ w.pins.publications = ap (λ (u : Writer). take (length w.pins.publications) u.publications) leads.pins ∙ take_all (length w.pins.publications) w.pins.publications (omega arith) in
      record {
        inside = mine.inside;
        mine = moved_here b.own r m;
        pins = get_or-set_same s.readers r z newcomer inside ∙ (ap (λ (u : Reader). looking s.index (published s) u) mine.pins ∙ (known ∙ sym pins));
        list = list ∙ (sym whole ∙ ap (λ (u : Reader). take u.seen s.writer.publications) (sym pins));
        past = past;
      }

  -- what it had seen is published
  begins : IsPrefix x.list w.pins.publications
  begins = subst (λ (u : Writer). IsPrefix x.list u.publications) leads.pins (stands_begins s b.own id r x mine)

  pub stands : StandsFor after own' m r (when_joined w r x)
  stands = stands_by (when_joined w r x) refl refl (begins, all_again x.past x.list w.pins.publications mine.past begins)

  pub stands_again : StandsFor after own' m r (when_parted w r x)
  stands_again = stands_by (when_parted w r x) refl refl (all_again x.past x.list w.pins.publications mine.past begins)

  -- who stands for others still does
  pub others : (j : ℕ) (ys : List (ℕ × Reading)) → j ≢ id → StandsForAll s b.own j ys → StandsForAll after own' j ys
  others j ys ne k = all_still s after b.own own' (λ n l. refl) (λ q. (b.lawful.seen q).most) j j ys
      (λ q o. let other : q ≢ r = (λ e. ne (sym o ∙ (ap b.own e ∙ mine.mine))) in (get_or-set_other s.readers r q (looking s.index (published s) (reader s r)) newcomer other, moved_else b.own r m q other ∙ o)) k

  pub lead_still : (v : Writing) → Leads s v → Leads after v
  lead_still v k = record {
    pins = k.pins;
    current = k.current;
    words = k.words;
    idle = k.idle;
    apart = k.apart;
    unheld = same_sum (λ (u : Reader). at_buffer v.idle u.held) s.readers r (looking s.index (published s) (reader s r)) inside refl ∙ k.unheld;
  }

-- joining the writer's seat with that of a reader that isn't gone, which tells the reader, keeps the rule
pub tell_joins : (W id other r : ℕ) (x : Reading) (w : Writing) → x.pins.gone ≡ false → Joins (Banked W) id (the_writer w) other (one_reader r x) (both_of w r (when_joined w r x)) nobody
tell_joins W id other r x w here t b at apart there =
    let at' : get_elem? t.views other ≡ some (one_reader r x) = sym (set_else t.views id other (both_of w r (when_joined w r x)) apart) ∙ there in
    let mine : StandsFor b.core b.own other r x = (b.readers other (one_reader r x) at').0 in
    let lead = b.writer id (the_writer w) w at refl in
    let V = both_of w r (when_joined w r x) in
    let s' = after_look b.core r in
    let d : Deed = looked_at r w.current in
    let own' = moved_to b.own r id in
    record {
      core = s';
      own = own';
      writer_seat = b.writer_seat;
      lawful = law W t b other r id x w mine here lead.1;
      shows = shows W t b other r id x w mine here lead.1;
      numbered = b.numbered;
      first = b.first;
      wide = b.wide;
      history = b.history ++ d ∷ [];
      run = runs_more W (opening b.first) b.core s' b.history d b.run ((mine.inside, ap (λ (y : Reader). y.gone) mine.pins ∙ here), ap an.Index (sym lead.1.current), refl);
      recorded = λ j u e. ⊎_elim {A = (j ≡ other) × (nobody ≡ u)} {B = (j ≢ other) × (get_elem? (set t.views id V) j ≡ some u)}
          (λ h. subst (λ (z : Known). RecordsAll (b.history ++ d ∷ []) z.readers) h.1 tt)
          (λ h. ⊎_elim {A = (j ≡ id) × (V ≡ u)} {B = (j ≢ id) × (get_elem? t.views j ≡ some u)}
          (λ g. subst (λ (z : Known). RecordsAll (b.history ++ d ∷ []) z.readers) g.1 (record { grows = grows_own (suc r) x.history b.history x.pending d refl (b.recorded other (one_reader r x) at').0.grows; heard = begins_whole w.history b.history d (b.noted id (the_writer w) w at refl) }, tt))
          (λ g. records_still b.history d b.core b.own j u.readers (b.readers j u g.1) (b.recorded j u g.1) (λ q o e'. h.0 (sym o ∙ (ap b.own (same_suc q r e') ∙ mine.mine))))
          (at_set t.views id j V u h.1))
          (at_set (set t.views id V) other j nobody u e);
      noted = λ j u v e is. ⊎_elim {A = (j ≡ other) × (nobody ≡ u)} {B = (j ≢ other) × (get_elem? (set t.views id V) j ≡ some u)}
          (λ h. absurd (none-some v (ap (λ (z : Known). z.writer) h.1 ∙ is)))
          (λ h. ⊎_elim {A = (j ≡ id) × (V ≡ u)} {B = (j ≢ id) × (get_elem? t.views j ≡ some u)}
          (λ g. grows_else 0 v.history b.history [] d (writes_none r) (b.noted id (the_writer w) v at (ap (λ (z : Known). z.writer) g.1 ∙ is)))
          (λ g. grows_else 0 v.history b.history [] d (writes_none r) (b.noted j u v g.1 is))
          (at_set t.views id j V u h.1))
          (at_set (set t.views id V) other j nobody u e);
      readers = λ j u e. ⊎_elim {A = (j ≡ other) × (nobody ≡ u)} {B = (j ≢ other) × (get_elem? (set t.views id V) j ≡ some u)}
          (λ h. subst (λ (z : Known). StandsForAll s' own' j z.readers) h.1 tt)
          (λ h. ⊎_elim {A = (j ≡ id) × (V ≡ u)} {B = (j ≢ id) × (get_elem? t.views j ≡ some u)}
          (λ g. subst (λ (z : ℕ × Known). StandsForAll s' own' z.0 z.1.readers) (λ i. (sym g.0 i, g.1 i)) (stands W t b other r id x w mine here lead.1, tt))
          (λ g. others W t b other r id x w mine here lead.1 j u.readers h.0 (b.readers j u g.1))
          (at_set t.views id j V u h.1))
          (at_set (set t.views id V) other j nobody u e);
      writer = λ j u v e is. ⊎_elim {A = (j ≡ other) × (nobody ≡ u)} {B = (j ≢ other) × (get_elem? (set t.views id V) j ≡ some u)}
          (λ h. absurd (none-some v (ap (λ (z : Known). z.writer) h.1 ∙ is)))
          (λ h. ⊎_elim {A = (j ≡ id) × (V ≡ u)} {B = (j ≢ id) × (get_elem? t.views j ≡ some u)}
          (λ g. let l = b.writer id (the_writer w) v at (ap (λ (z : Known). z.writer) g.1 ∙ is) in (l.0 ∙ sym g.0, lead_still W t b other r id x w mine here lead.1 v l.1))
          (λ g. let l = b.writer j u v g.1 is in (l.0, lead_still W t b other r id x w mine here lead.1 v l.1))
          (at_set t.views id j V u h.1))
          (at_set (set t.views id V) other j nobody u e);
    }

-- cutting a reader that isn't gone off the writer's seat, which tells it once more, keeps the rule
pub tell_splits : (W id r : ℕ) (x : Reading) (w : Writing) → x.pins.gone ≡ false → Splits (Banked W) id (both_of w r x) (the_writer w) (one_reader r (when_parted w r x))
tell_splits W id r x w here t b at =
    let m : ℕ = length (set t.views id (the_writer w)) in
    let mine : StandsFor b.core b.own id r x = (b.readers id (both_of w r x) at).0 in
    let lead = b.writer id (both_of w r x) w at refl in
    let V = the_writer w in
    let R = one_reader r (when_parted w r x) in
    let s' = after_look b.core r in
    let d : Deed = looked_at r w.current in
    let own' = moved_to b.own r m in
    record {
      core = s';
      own = own';
      writer_seat = b.writer_seat;
      lawful = law W t b id r m x w mine here lead.1;
      shows = shows W t b id r m x w mine here lead.1;
      numbered = b.numbered;
      first = b.first;
      wide = b.wide;
      history = b.history ++ d ∷ [];
      run = runs_more W (opening b.first) b.core s' b.history d b.run ((mine.inside, ap (λ (y : Reader). y.gone) mine.pins ∙ here), ap an.Index (sym lead.1.current), refl);
      recorded = λ j u e. ⊎_elim {A = (j < m) × (get_elem? (set t.views id V) j ≡ some u)} {B = (j ≡ m) × (R ≡ u)}
          (λ h. ⊎_elim {A = (j ≡ id) × (V ≡ u)} {B = (j ≢ id) × (get_elem? t.views j ≡ some u)}
          (λ g. subst (λ (z : Known). RecordsAll (b.history ++ d ∷ []) z.readers) g.1 tt)
          (λ g. records_still b.history d b.core b.own j u.readers (b.readers j u g.1) (b.recorded j u g.1) (λ q o e'. g.0 (sym o ∙ (ap b.own (same_suc q r e') ∙ mine.mine))))
          (at_set t.views id j V u h.1))
          (λ h. subst (λ (z : Known). RecordsAll (b.history ++ d ∷ []) z.readers) h.1 (record { grows = grows_own (suc r) x.history b.history x.pending d refl (b.recorded id (both_of w r x) at).0.grows; heard = begins_whole w.history b.history d (b.noted id (both_of w r x) w at refl) }, tt))
          (at_end (set t.views id V) R u j e);
      noted = λ j u v e is. ⊎_elim {A = (j < m) × (get_elem? (set t.views id V) j ≡ some u)} {B = (j ≡ m) × (R ≡ u)}
          (λ h. ⊎_elim {A = (j ≡ id) × (V ≡ u)} {B = (j ≢ id) × (get_elem? t.views j ≡ some u)}
          (λ g. grows_else 0 v.history b.history [] d (writes_none r) (b.noted id (both_of w r x) v at (ap (λ (z : Known). z.writer) g.1 ∙ is)))
          (λ g. grows_else 0 v.history b.history [] d (writes_none r) (b.noted j u v g.1 is))
          (at_set t.views id j V u h.1))
          (λ h. absurd (none-some v (ap (λ (z : Known). z.writer) h.1 ∙ is)))
          (at_end (set t.views id V) R u j e);
      readers = λ j u e. ⊎_elim {A = (j < m) × (get_elem? (set t.views id V) j ≡ some u)} {B = (j ≡ m) × (R ≡ u)}
          (λ h. ⊎_elim {A = (j ≡ id) × (V ≡ u)} {B = (j ≢ id) × (get_elem? t.views j ≡ some u)}
          (λ g. subst (λ (z : Known). StandsForAll s' own' j z.readers) g.1 tt)
          (λ g. others W t b id r m x w mine here lead.1 j u.readers g.0 (b.readers j u g.1))
          (at_set t.views id j V u h.1))
          (λ h. subst (λ (z : ℕ × Known). StandsForAll s' own' z.0 z.1.readers) (λ i. (sym h.0 i, h.1 i)) (stands_again W t b id r m x w mine here lead.1, tt))
          (at_end (set t.views id V) R u j e);
      writer = λ j u v e is. ⊎_elim {A = (j < m) × (get_elem? (set t.views id V) j ≡ some u)} {B = (j ≡ m) × (R ≡ u)}
          (λ h. ⊎_elim {A = (j ≡ id) × (V ≡ u)} {B = (j ≢ id) × (get_elem? t.views j ≡ some u)}
          (λ g. let l = b.writer id (both_of w r x) v at (ap (λ (z : Known). z.writer) g.1 ∙ is) in (l.0 ∙ sym g.0, lead_still W t b id r m x w mine here lead.1 v l.1))
          (λ g. let l = b.writer j u v g.1 is in (l.0, lead_still W t b id r m x w mine here lead.1 v l.1))
          (at_set t.views id j V u h.1))
          (λ h. absurd (none-some v (ap (λ (z : Known). z.writer) h.1 ∙ is)))
          (at_end (set t.views id V) R u j e);
    }

-- a seat that stands for the writer may take in one that stands for a reader, if that reader isn't gone
pub join_allowed : (id other r : ℕ) (x : Reading) (w : Writing) (v u : Known) → v ≡ the_writer w → u ≡ one_reader r x → x.pins.gone ≡ false → Joins IsBank id v other u (together v u) nobody
join_allowed id other r x w v u is_w is_r here = subst (λ (z : Known). Joins IsBank id z other u (together z u) nobody) (sym is_w)
    (subst (λ (z : Known). Joins IsBank id (the_writer w) other z (together (the_writer w) z) nobody) (sym is_r) (λ t b at apart there. tell_joins (length t.homes) id other r x w here t b at apart there))

-- a seat that stands for the writer and a reader may be cut into these two, if that reader isn't gone
pub split_allowed : (id r : ℕ) (x : Reading) (w : Writing) (v : Known) → v ≡ both_of w r x → x.pins.gone ≡ false → Splits IsBank id v (writer_alone v) (readers_apart v)
split_allowed id r x w v is here = subst (λ (z : Known). Splits IsBank id z (writer_alone z) (readers_apart z)) (sym is) (λ t b at. tell_splits (length t.homes) id r x w here t b at)
