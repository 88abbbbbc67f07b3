-- Each step of a reader keeps the bank's rule.
use Rattle.std.proofs.Common.{◌≡◌, ◌≢◌, ℕ, suc, ◌+◌, ◌-◌, ◌*◌, ◌%◌, ◌<◌, ◌≤◌, Bool, true, false, List, [], ◌∷◌, ◌++◌, length, take, drop, set, get_or, sym, refl, ap, ◌∙◌, subst, arith, length-set, get_or-set_other, get_or-set_same, Some, None, ◌⊎◌, take_all, take-append-drop, get_or-take}
use Rattle.std.proofs.lemmas.Option.{none-some, same_Some}
use Rattle.std.proofs.lemmas.List.{set-get_or}
use Rattle.std.proofs.lemmas.List.Sums.{sum_by-set}
use mathlib.Core.Logic.{dite}
use native.Mathlib.Decide.{ℕ_discrete}
use mathlib.Core.Option.{some}
use lib.ListN.{get_elem?}
use Rattle.atomic_table.specs.Table.{State, Step, keeps, Allows}
use Rattle.pin_core.specs.State.{Reader, Writer, PinState, newcomer, reader, leavings_of, published, publication_at}
use Rattle.pin_core.specs.Effects.{looking, after_look, CanPin, pinning, after_pin, CanUnpin, leaving, after_unpin}
use Rattle.pin_core.specs.StateInvariant.{Lawful, holders, at_buffer}
use Rattle.pin_core.proofs.HolderCountLemmas.{same_sum, at_other}
use Rattle.pin_core.proofs.ReaderStepLemmas.{look_keeps, pin_keeps, unpin_keeps}
use mathlib.Core.List.{IsPrefix}
use Rattle.xcp_bank.specs.SeatKnowledge.{Reading, Known, one_reader}
use Rattle.xcp_bank.specs.TableRule.{Shows, IsNumbered, StandsFor, RecordsReader, Banked, IsBank}
use Rattle.xcp_bank.specs.private.ReaderSteps.{Seat, reader_plays, Finds, Pinned, reading_after_pin, Looked, reading_after_look, Unpinned, GivesUp, reading_after_unpin, ReadAt, reading_after_read}
use Rattle.xcp_bank.proofs.PrefixLemmas.{all_again}
use Rattle.xcp_bank.proofs.OtherSeatLemmas.{seat_step}
use Rattle.pin_core.specs.Steps.{Steps}
use Rattle.pin_core.specs.State.{words_of_buffer}
use Rattle.pin_core.specs.declared.events.Seen.TheVariants as an
use Rattle.xcp_bank.specs.PinHistory.{Deed, doer, Grows, looked_at, pinned_at, given_up, has_read}
use Rattle.pin_core.specs.Steps.{Runs}
use Rattle.pin_core.specs.State.{opening}
use Rattle.xcp_bank.specs.PinHistory.{deed_events, answers_of}
use Rattle.xcp_bank.specs.private.ReaderSteps.{UpToDate, Reaches, FollowsHistory}
use Rattle.xcp_bank.proofs.HistoryLemmas.{grows_none, begins_more, runs_more}

-- what a reader has seen begins what is published
pub stands_begins : (s : PinState) (own : ℕ → ℕ) (id r : ℕ) (x : Reading) → StandsFor s own id r x → IsPrefix x.list s.writer.publications
stands_begins s own id r x mine =
    let rest : List (List ℕ) = drop x.pins.seen s.writer.publications in
    (rest, ap (λ (l : List (List ℕ)). l ++ rest) mine.list ∙ take-append-drop x.pins.seen s.writer.publications)

-- readers whose numbers plus one are equal are the same reader
pub same_suc : (q r : ℕ) → suc q ≡ suc r → q ≡ r
same_suc q r e = omega arith

-- a reader's number plus one is never 0, which stands for the writer
pub writes_none : (r : ℕ) → 0 ≡ suc r → ⊥
writes_none r e = absurd (omega arith)

module _ (W : ℕ) (t : State (Unit {0}) Known) (b : Banked W t) (id r : ℕ) (x : Reading) (at : get_elem? t.views id ≡ some (one_reader r x)) where
  -- how far the reader's history reaches at its next step
  pub reached : Reaches r x b.history
  reached = let k = (b.recorded id (one_reader r x) at).0 in record { grows = k.grows; heard = k.heard }

  -- and what it keeps then
  pub records_next : (d : Deed) (y : Reading) → y.history ≡ b.history ++ d ∷ [] → y.pending ≡ [] → y.heard ≡ x.heard → RecordsReader (b.history ++ d ∷ []) r y
  records_next d y history pending heard = record {
    grows = subst (λ (l : List Deed). Grows (suc r) y.history (b.history ++ d ∷ []) l) (sym pending)
        (subst (λ (l : List Deed). Grows (suc r) l (b.history ++ d ∷ []) []) (sym history) (grows_none (suc r) (b.history ++ d ∷ [])));
    heard = subst (λ (l : List Deed). IsPrefix l (b.history ++ d ∷ [])) (sym heard) (begins_more x.heard b.history d reached.heard);
  }

module _ (W : ℕ) (t : State (Unit {0}) Known) (b : Banked W t) where
  -- the count is small
  pub few : b.core.count ≤ 6
  few = b.lawful.counted.few

  pub pin_step : (id r : ℕ) (x : Reading) → get_elem? t.views id ≡ some (one_reader r x) → x.pins.gone ≡ false → x.pins.held ≡ None
      → Banked W record { words = set t.words 0 ((get_or t.words 0 0 + 1) % 18446744073709551616); homes = t.homes; views = set t.views id (one_reader r (reading_after_pin r x b.core.index b.core.writer.publications b.history)) }
  pin_step id r x at here free =
      let s = b.core in
      let mine : StandsFor s b.own id r x = (b.readers id (one_reader r x) at).0 in
      let law = b.lawful in
      let inside : r < length s.readers = (let l = law.sizes.seats in let i = mine.inside in omega arith) in
      let can : CanPin s r = (mine.inside, ap (λ (y : Reader). y.gone) mine.pins ∙ here, ap (λ (y : Reader). y.held) mine.pins ∙ free) in
      let gone_same : (reader s r).gone ≡ x.pins.gone = ap (λ (y : Reader). y.gone) mine.pins in
      let s' = after_pin s r in
      let y = reading_after_pin r x s.index s.writer.publications b.history in
      let z : Reader = pinning s.index (published s) (reader s r) in
      let small = few in let head = b.shows.head in let low = law.sizes.index in
      let next : (get_or t.words 0 0 + 1) % 18446744073709551616 ≡ s.index * 4294967296 + (s.count + 1) = omega arith in
      let size = b.shows.size in
      let first : 0 < length t.words = omega arith in
      seat_step W t b id (one_reader r y) (set t.words 0 ((get_or t.words 0 0 + 1) % 18446744073709551616)) s'
      (pin_keeps W s r law can)
      record {
        size = length-set t.words 0 ((get_or t.words 0 0 + 1) % 18446744073709551616) ∙ b.shows.size;
        head = get_or-set_same t.words 0 ((get_or t.words 0 0 + 1) % 18446744073709551616) 0 first ∙ next;
        left = λ c l. get_or-set_other t.words 0 (1 + c) ((get_or t.words 0 0 + 1) % 18446744073709551616) 0 (λ e. omega arith) ∙ b.shows.left c l;
        image = λ c k l m. get_or-set_other t.words 0 (9 + (c * W + k)) ((get_or t.words 0 0 + 1) % 18446744073709551616) 0 (λ e. omega arith) ∙ b.shows.image c k l m;
      }
      b.numbered (
        record {
          inside = mine.inside;
          mine = mine.mine;
          pins = get_or-set_same s.readers r z newcomer inside ∙ ap (λ (g : Bool). record { held = Some (s.index, published s - 1); looked = s.index; seen = published s; gone = g }) gone_same;
          list = sym (take_all (published s) s.writer.publications (omega arith));
          past = tt;
        },
        tt,
      )
      (λ w e. absurd (none-some w e))
      (λ q other. get_or-set_other s.readers r q z newcomer (λ e. other (ap b.own e ∙ mine.mine)))
      (λ n l. refl)
      (λ other w k. record {
        pins = k.pins;
        current = k.current;
        words = k.words;
        idle = k.idle;
        apart = k.apart;
        unheld = same_sum (λ (u : Reader). at_buffer w.idle u.held) s.readers r z inside
            (at_other s.index w.idle (published s - 1) (λ e. k.apart (sym e ∙ k.current)) ∙ sym (ap (at_buffer w.idle) can.2)) ∙ k.unheld;
      })
      (pinned_at r s.index) (can, refl, refl)
      (records_next W t b id r x at (pinned_at r s.index) (reading_after_pin r x s.index s.writer.publications b.history) refl refl refl, tt)
      (λ q other e. other (ap b.own (same_suc q r e) ∙ mine.mine))
      (λ w e. absurd (none-some w e)) (λ _ e. writes_none r e)

  -- all that the reader had seen is published, and what it had seen before that too
  pub begins : (id r : ℕ) (x : Reading) → get_elem? t.views id ≡ some (one_reader r x) → IsPrefix x.list b.core.writer.publications
  begins id r x at = stands_begins b.core b.own id r x (b.readers id (one_reader r x) at).0

  pub found : (id r : ℕ) (x : Reading) → get_elem? t.views id ≡ some (one_reader r x) → Finds r x (get_or t.words 0 0) b.core.index b.core.writer.publications b.history
  found id r x at = record {
    count = b.core.count;
    few = few;
    buffer = b.lawful.sizes.index;
    head = b.shows.head;
    some = b.lawful.latest.some;
    begins = begins id r x at;
    pasts = all_again x.past x.list b.core.writer.publications ((b.readers id (one_reader r x) at).0).past (begins id r x at);
    reaches = reached W t b id r x at;
  }

  -- what the reader knows then is true of the state that is reached
  pub follows_by : (id r : ℕ) (y : Reading) (d : Deed) (u : PinState) → Steps W b.core d.0 d.1 u → y.history ≡ b.history ++ d ∷ [] → reader u r ≡ y.pins → FollowsHistory W r y
  follows_by id r y d u step history pins = record {
    state = u;
    ran = (b.first, b.wide, subst (λ (h : List Deed). Runs W (opening b.first) (deed_events h) (answers_of h) u) (sym history) (runs_more W (opening b.first) b.core u b.history d b.run step));
    held = ap (λ (z : Reader). z.held) pins;
    gone = ap (λ (z : Reader). z.gone) pins;
  }

  pub shown_by : (id r : ℕ) (y : Reading) (d : Deed) (u : PinState) → Steps W b.core d.0 d.1 u → y.history ≡ b.history ++ d ∷ [] → u.index ≡ y.pins.looked → u.writer.publications ≡ y.list → reader u r ≡ y.pins → UpToDate W r y
  shown_by id r y d u step history index list pins = record {
    state = u;
    ran = (b.first, b.wide, subst (λ (h : List Deed). Runs W (opening b.first) (deed_events h) (answers_of h) u) (sym history) (runs_more W (opening b.first) b.core u b.history d b.run step));
    index = index;
    list = list;
    pins = pins;
  }

  pub pin_tells : (id r : ℕ) (x : Reading) → get_elem? t.views id ≡ some (one_reader r x) → x.pins.gone ≡ false → x.pins.held ≡ None
      → Pinned W r x (get_or t.words 0 0) (reading_after_pin r x b.core.index b.core.writer.publications b.history)
  pin_tells id r x at here free =
      let s = b.core in
      let mine : StandsFor s b.own id r x = (b.readers id (one_reader r x) at).0 in
      let inside : r < length s.readers = (let l = b.lawful.sizes.seats in let i = mine.inside in omega arith) in
      let can : CanPin s r = (mine.inside, ap (λ (y : Reader). y.gone) mine.pins ∙ here, ap (λ (y : Reader). y.held) mine.pins ∙ free) in
      let gone_same : (reader s r).gone ≡ x.pins.gone = ap (λ (y : Reader). y.gone) mine.pins in
      record {
        index = s.index;
        list = s.writer.publications;
        before = b.history;
        finds = found id r x at;
        is = refl;
        up_to_date = shown_by id r (reading_after_pin r x s.index s.writer.publications b.history) (pinned_at r s.index) (after_pin s r) (can, refl, refl) refl refl refl
            (get_or-set_same s.readers r (pinning s.index (published s) (reader s r)) newcomer inside ∙ ap (λ (g : Bool). record { held = Some (s.index, published s - 1); looked = s.index; seen = published s; gone = g }) gone_same);
      }

-- who makes a step of a reader's seat owes this of each state
module _ (W id : ℕ) (r : ℕ) (x : Reading) (i : ℕ) (f : ℕ → ℕ) (after : ℕ → Reading → ℕ → Reading → Type 0) where
  abbrev pub Makes : Type 0
  Makes = (t : State (Unit {0}) Known) (b : Banked W t) → get_elem? t.views id ≡ some (one_reader r x)
      → (y : Reading) × Banked W record { words = set t.words i (f (get_or t.words i 0)); homes = t.homes; views = set t.views id (one_reader r y) } × after r x (get_or t.words i 0) y

  one_reader_is : (q : ℕ) (u : Reading) → one_reader r x ≡ one_reader q u → ◌≡◌ {A = ℕ × Reading} (r, x) (q, u)
  one_reader_is q u e = let l : ◌≡◌ {A = List (ℕ × Reading)} ((r, x) ∷ []) ((q, u) ∷ []) = ap (λ (v : Known). v.readers) e in cc

  fits_one : (c : List (ℕ × Unit {0})) → Makes → (st : Step (Unit {0})) → Allows IsBank W id (one_reader r x, c) i f (reader_plays after st (one_reader r x, c))
  fits_one c make st t b homes at fits =
      let m = make t (subst (λ (n : ℕ). Banked n t) homes b) at in (
        one_reader r m.0,
        keeps,
        tt,
        subst (λ (n : ℕ). Banked n record { words = set t.words i (f (get_or t.words i 0)); homes = t.homes; views = set t.views id (one_reader r m.0) }) (sym homes) m.1,
        λ q u e. let same = one_reader_is q u e in
            (m.0, ap (λ (z : ℕ × Reading). (one_reader z.0 m.0, c)) same, subst (λ (z : ℕ × Reading). after z.0 z.1 (get_or t.words i 0) m.0) same m.2),
      )

  pub allowed : (me : Seat) → me.0 ≡ one_reader r x → Makes → (st : Step (Unit {0})) → Allows IsBank W id me i f (reader_plays after st me)
  allowed me is make st = subst (λ (v : Known). Allows IsBank W id (v, me.1) i f (reader_plays after st (v, me.1))) (sym is) (fits_one me.1 make st)

-- the rule allows a Pin, one more in word 0, to a reader that isn't gone and holds nothing
pub pin_allowed : (W id r : ℕ) (x : Reading) (me : Seat) → me.0 ≡ one_reader r x → x.pins.gone ≡ false → x.pins.held ≡ None → (st : Step (Unit {0}))
    → Allows IsBank W id me 0 (λ n. (n + 1) % 18446744073709551616) (reader_plays (Pinned W) st me)
pin_allowed W id r x me is here free st = allowed W id r x 0 (λ n. (n + 1) % 18446744073709551616) (Pinned W) me is
    (λ t b at. (
      reading_after_pin r x b.core.index b.core.writer.publications b.history,
      pin_step W t b id r x at here free,
      pin_tells W t b id r x at here free,
    )) st

module _ (W : ℕ) (t : State (Unit {0}) Known) (b : Banked W t) (id r : ℕ) (x : Reading) (at : get_elem? t.views id ≡ some (one_reader r x)) where
  abbrev s : PinState
  s = b.core

  mine : StandsFor b.core b.own id r x
  mine = (b.readers id (one_reader r x) at).0

  inside : r < length b.core.readers
  inside = let l = b.lawful.sizes.seats in let i = mine.inside in omega arith

  -- a step that changes no word, and of the reader neither what it holds nor whether it is gone
  pub plain_step : (i : ℕ) (y : Reading) (u : PinState) → Lawful W u → Shows W t.words u
      → StandsFor u b.own id r y
      → ((q : ℕ) → q ≢ r → reader u q ≡ reader b.core q) → u.writer ≡ b.core.writer → u.index ≡ b.core.index → u.words ≡ b.core.words → ((c : ℕ) → holders c u.readers ≡ holders c b.core.readers)
      → (d : Deed) → Steps W b.core d.0 d.1 u → RecordsReader (b.history ++ d ∷ []) r y → doer d.0 ≡ suc r
      → Banked W record { words = set t.words i (get_or t.words i 0); homes = t.homes; views = set t.views id (one_reader r y) }
  plain_step i y u law shows stands others same index words held d step records doer_is =
      seat_step W t b id (one_reader r y) (set t.words i (get_or t.words i 0)) u law
      (subst (λ (ws : List ℕ). Shows W ws u) (sym (set-get_or t.words i 0)) shows)
      (λ p l. subst (λ (z : Writer). IsNumbered W p (get_or z.publications p [])) (sym same) (b.numbered p (subst (λ (z : Writer). p < length z.publications) same l)))
      (stands, tt)
      (λ w e. absurd (none-some w e))
      (λ q other. others q (λ e. other (ap b.own e ∙ mine.mine)))
      (λ n l. ap (λ (z : Writer). take n z.publications) same)
      (λ other w k. record { pins = same ∙ k.pins; current = index ∙ k.current; words = words ∙ k.words; idle = k.idle; apart = k.apart; unheld = held w.idle ∙ k.unheld })
      d step (records, tt) (λ q other e. other (ap b.own (same_suc q r (e ∙ doer_is)) ∙ mine.mine))
      (λ w e. absurd (none-some w e)) (λ _ e. writes_none r (e ∙ doer_is))

  pub look_step : x.pins.gone ≡ false → Banked W record { words = set t.words 0 (get_or t.words 0 0); homes = t.homes; views = set t.views id (one_reader r (reading_after_look r x b.core.index b.core.writer.publications b.history)) }
  look_step here =
      let z : Reader = looking s.index (published s) (reader s r) in
      let some_one = b.lawful.latest.some in
      plain_step 0 (reading_after_look r x b.core.index b.core.writer.publications b.history) (after_look s r)
      (look_keeps W s r b.lawful (mine.inside, ap (λ (y : Reader). y.gone) mine.pins ∙ here))
      record { size = b.shows.size; head = b.shows.head; left = b.shows.left; image = b.shows.image }
      record {
        inside = mine.inside;
        mine = mine.mine;
        pins = get_or-set_same s.readers r z newcomer inside ∙ ap (λ (y : Reader). looking s.index (published s) y) mine.pins;
        list = sym (take_all (published s) s.writer.publications (omega arith));
        past = tt;
      }
      (λ q ne. get_or-set_other s.readers r q z newcomer ne)
      refl refl refl
      (λ c. same_sum (λ (u : Reader). at_buffer c u.held) s.readers r z inside refl)
      (looked_at r s.index) ((mine.inside, ap (λ (y : Reader). y.gone) mine.pins ∙ here), refl, refl)
      (records_next W t b id r x at (looked_at r s.index) (reading_after_look r x s.index s.writer.publications b.history) refl refl refl) refl

  pub look_tells : x.pins.gone ≡ false → Looked W r x (get_or t.words 0 0) (reading_after_look r x b.core.index b.core.writer.publications b.history)
  look_tells here = record {
    index = s.index;
    list = s.writer.publications;
    before = b.history;
    finds = found W t b id r x at;
    is = refl;
    up_to_date = shown_by W t b id r (reading_after_look r x s.index s.writer.publications b.history) (looked_at r s.index) (after_look s r) ((mine.inside, ap (λ (y : Reader). y.gone) mine.pins ∙ here), refl, refl) refl refl refl
        (get_or-set_same s.readers r (looking s.index (published s) (reader s r)) newcomer inside ∙ ap (λ (y : Reader). looking s.index (published s) y) mine.pins);
    current = λ c p e i. (b.lawful.keeps r c p (ap (λ (y : Reader). y.held) mine.pins ∙ e)).current i;
    newest = λ c p e i. (b.lawful.keeps r c p (ap (λ (y : Reader). y.held) mine.pins ∙ e)).newest i;
    known = λ c p e. (let h = (b.lawful.seen r).held c p (ap (λ (y : Reader). y.held) mine.pins ∙ e) in let m = (b.lawful.seen r).most in omega arith);
  }

  -- the word of the table is the word of the buffer
  shown : (i c p k : ℕ) → x.pins.held ≡ Some (c, p) → k < W → i ≡ 9 + (c * W + k) → get_or t.words i 0 ≡ get_or (words_of_buffer s c) k 0
  shown i c p k holds low place = ap (λ (z : ℕ). get_or t.words z 0) place ∙ b.shows.image c k (b.lawful.keeps r c p (ap (λ (y : Reader). y.held) mine.pins ∙ holds)).buffer low

  -- a step that reads
  pub read_step : (i c p k : ℕ) → x.pins.held ≡ Some (c, p) → k < W → i ≡ 9 + (c * W + k) → Banked W record { words = set t.words i (get_or t.words i 0); homes = t.homes; views = set t.views id (one_reader r (reading_after_read r k (get_or t.words i 0) b.history x)) }
  read_step i c p k holds low place = plain_step i (reading_after_read r k (get_or t.words i 0) b.history x) s b.lawful b.shows record { inside = mine.inside; mine = mine.mine; pins = mine.pins; list = mine.list; past = mine.past } (λ q ne. refl) refl refl refl (λ c. refl)
      (has_read r k (get_or t.words i 0)) (c, p, (mine.inside, ap (λ (y : Reader). y.held) mine.pins ∙ holds, low), ap an.Word (shown i c p k holds low place), refl)
      (records_next W t b id r x at (has_read r k (get_or t.words i 0)) (reading_after_read r k (get_or t.words i 0) b.history x) refl refl refl) refl

  -- the publication that is held is one of those that it has seen, and it is the publication with that number
  held_seen : (c p : ℕ) → x.pins.held ≡ Some (c, p) → (p < x.pins.seen) × (p < published s) × (publication_at s p ≡ get_or x.list p [])
  held_seen c p e =
      let h = (b.lawful.seen r).held c p (ap (λ (y : Reader). y.held) mine.pins ∙ e) in
      let m = (b.lawful.seen r).most in
      let same : (reader s r).seen ≡ x.pins.seen = ap (λ (y : Reader). y.seen) mine.pins in
      let seen : p < x.pins.seen = omega arith in
      (seen, omega arith, sym (get_or-take x.pins.seen s.writer.publications p [] seen) ∙ ap (λ (l : List (List ℕ)). get_or l p []) (sym mine.list))

  pub read_tells : (i c p k : ℕ) → x.pins.held ≡ Some (c, p) → k < W → i ≡ 9 + (c * W + k) → ReadAt W i r x (get_or t.words i 0) (reading_after_read r k (get_or t.words i 0) b.history x)
  read_tells i c p k holds low place = record {
    k = k;
    before = b.history;
    place = λ d q e. place ∙ ap (λ (h : ℕ × ℕ). 9 + (h.0 * W + k)) (same_Some (c, p) (d, q) (sym holds ∙ e));
    reaches = reached W t b id r x at;
    is = refl;
    follows = follows_by W t b id r (reading_after_read r k (get_or t.words i 0) b.history x) (has_read r k (get_or t.words i 0)) s
        (c, p, (mine.inside, ap (λ (y : Reader). y.held) mine.pins ∙ holds, low), ap an.Word (shown i c p k holds low place), refl) refl mine.pins;
    value = λ c p k e place low.
        let h = b.lawful.keeps r c p (ap (λ (y : Reader). y.held) mine.pins ∙ e) in
        ap (λ (z : ℕ). get_or t.words z 0) place ∙ (b.shows.image c k h.buffer low ∙ ap (λ (l : List ℕ). get_or l k 0) (h.words ∙ (held_seen c p e).2));
    numbered = λ c p e. let h = held_seen c p e in subst (IsNumbered W p) h.2 (b.numbered p h.1);
    pasts = mine.past;
  }

-- the rule allows a Look, which leaves word 0, to a reader that isn't gone
pub look_allowed : (W id r : ℕ) (x : Reading) (me : Seat) → me.0 ≡ one_reader r x → x.pins.gone ≡ false → (st : Step (Unit {0})) → Allows IsBank W id me 0 (λ n. n) (reader_plays (Looked W) st me)
look_allowed W id r x me is here st = allowed W id r x 0 (λ n. n) (Looked W) me is
    (λ t b at. (reading_after_look r x b.core.index b.core.writer.publications b.history, look_step W t b id r x at here, look_tells W t b id r x at here)) st

-- the rule allows a Read, which leaves the word, of any word of the buffer that a reader holds
pub read_allowed : (W id r : ℕ) (x : Reading) (me : Seat) (i c p k : ℕ) → x.pins.held ≡ Some (c, p) → k < W → i ≡ 9 + (c * W + k) → me.0 ≡ one_reader r x → (st : Step (Unit {0})) → Allows IsBank W id me i (λ n. n) (reader_plays (ReadAt W i) st me)
read_allowed W id r x me i c p k holds low place is st = allowed W id r x i (λ n. n) (ReadAt W i) me is
    (λ t b at. (reading_after_read r k (get_or t.words i 0) b.history x, read_step W t b id r x at i c p k holds low place, read_tells W t b id r x at i c p k holds low place)) st

module _ (W : ℕ) (t : State (Unit {0}) Known) (b : Banked W t) (id r : ℕ) (x : Reading) (at : get_elem? t.views id ≡ some (one_reader r x)) where
  -- a reader gives its buffer c up
  pub unpin_step : (c p : ℕ) (last : Bool) → x.pins.held ≡ Some (c, p) → (x.pins.looked ≢ c) ⊎ (last ≡ true)
      → Banked W record { words = set t.words (1 + c) ((get_or t.words (1 + c) 0 + 1) % 18446744073709551616); homes = t.homes; views = set t.views id (one_reader r (reading_after_unpin r last b.history x)) }
  unpin_step c p last holds may =
      let s = b.core in
      let law = b.lawful in
      let m = mine W t b id r x at in
      let l = inside W t b id r x at in
      let holds' : (reader s r).held ≡ Some (c, p) = ap (λ (y : Reader). y.held) m.pins ∙ holds in
      let can : CanUnpin s r c p last = (m.inside, holds', subst (λ (y : Reader). (y.looked ≢ c) ⊎ (last ≡ true)) (sym m.pins) may) in
      let kept = law.keeps r c p holds' in
      let low = kept.buffer in
      let size = b.shows.size in
      let there : 1 + c < length t.words = omega arith in
      let low' : c < length s.leavings = (let n = law.sizes.counters in omega arith) in
      let old = b.shows.left c low in
      let few_left : leavings_of s c ≤ 6 = dite (ℕ_discrete c s.index)
      (λ e. let f = few W t b in let k = law.counted.exact in subst (λ (z : ℕ). leavings_of s z ≤ 6) (sym e) (omega arith))
      (λ ne. let o = law.others c low ne in let o₀ = o.exact in let o₁ = o.few in omega arith) in
      let next : (get_or t.words (1 + c) 0 + 1) % 18446744073709551616 ≡ leavings_of s c + 1 = omega arith in
      let n : ℕ = (get_or t.words (1 + c) 0 + 1) % 18446744073709551616 in
      let z : Reader = leaving last (reader s r) in
      seat_step W t b id (one_reader r (reading_after_unpin r last b.history x)) (set t.words (1 + c) n) (after_unpin s r c last)
      (unpin_keeps W s r c p last law can)
      record {
        size = length-set t.words (1 + c) n ∙ b.shows.size;
        head = get_or-set_other t.words (1 + c) 0 n 0 (λ e. omega arith) ∙ b.shows.head;
        left = λ d g. dite (ℕ_discrete d c)
            (λ e. subst (λ (k : ℕ). get_or (set t.words (1 + c) n) (1 + k) 0 ≡ get_or (set s.leavings c (leavings_of s c + 1)) k 0) (sym e)
            (get_or-set_same t.words (1 + c) n 0 there ∙ (next ∙ sym (get_or-set_same s.leavings c (leavings_of s c + 1) 0 low'))))
            (λ ne. get_or-set_other t.words (1 + c) (1 + d) n 0 (λ e. omega arith) ∙ (b.shows.left d g ∙ sym (get_or-set_other s.leavings c d (leavings_of s c + 1) 0 ne)));
        image = λ d k g h. get_or-set_other t.words (1 + c) (9 + (d * W + k)) n 0 (λ e. omega arith) ∙ b.shows.image d k g h;
      }
      b.numbered (
        record {
          inside = m.inside;
          mine = m.mine;
          pins = get_or-set_same s.readers r z newcomer l ∙ ap (λ (y : Reader). leaving last y) m.pins;
          list = m.list;
          past = m.past;
        },
        tt,
      )
      (λ w e. absurd (none-some w e))
      (λ q other. get_or-set_other s.readers r q z newcomer (λ e. other (ap b.own e ∙ m.mine)))
      (λ k g. refl)
      (λ other w k. record {
        pins = k.pins;
        current = k.current;
        words = k.words;
        idle = k.idle;
        apart = k.apart;
        unheld = (let u = k.unheld in let v = sum_by-set (λ (y : Reader). at_buffer w.idle y.held) s.readers r z newcomer l in let none_now : at_buffer w.idle z.held ≡ 0 = refl in omega arith);
      })
      (given_up r last) (c, p, can, refl, refl)
      (records_next W t b id r x at (given_up r last) (reading_after_unpin r last b.history x) refl refl refl, tt)
      (λ q other e. other (ap b.own (same_suc q r e) ∙ m.mine))
      (λ w e. absurd (none-some w e)) (λ _ e. writes_none r e)

  pub unpin_tells : (c p : ℕ) (last : Bool) → x.pins.held ≡ Some (c, p) → (x.pins.looked ≢ c) ⊎ (last ≡ true) → GivesUp W last r x (reading_after_unpin r last b.history x)
  unpin_tells c p last holds may =
      let s = b.core in
      let m = mine W t b id r x at in
      let can : CanUnpin s r c p last = (m.inside, ap (λ (y : Reader). y.held) m.pins ∙ holds, subst (λ (y : Reader). (y.looked ≢ c) ⊎ (last ≡ true)) (sym m.pins) may) in
      record {
        before = b.history;
        reaches = reached W t b id r x at;
        is = refl;
        follows = follows_by W t b id r (reading_after_unpin r last b.history x) (given_up r last) (after_unpin s r c last) (c, p, can, refl, refl) refl
            (get_or-set_same s.readers r (leaving last (reader s r)) newcomer (inside W t b id r x at) ∙ ap (λ (y : Reader). leaving last y) m.pins);
      }

-- the rule allows an Unpin, one more in the leavings, to a holder that saw another buffer current or leaves for good
pub unpin_allowed : (W id r : ℕ) (x : Reading) (me : Seat) (c p : ℕ) (last : Bool) → me.0 ≡ one_reader r x → x.pins.held ≡ Some (c, p) → (x.pins.looked ≢ c) ⊎ (last ≡ true) → (st : Step (Unit {0}))
    → Allows IsBank W id me (1 + c) (λ n. (n + 1) % 18446744073709551616) (reader_plays (Unpinned W last) st me)
unpin_allowed W id r x me c p last is holds may st = allowed W id r x (1 + c) (λ n. (n + 1) % 18446744073709551616) (Unpinned W last) me is
    (λ t b at. (
      reading_after_unpin r last b.history x,
      unpin_step W t b id r x at c p last holds may,
      unpin_tells W t b id r x at c p last holds may,
    )) st
