-- A reader's event keeps the state lawful.
use Rattle.std.proofs.Common.{◌≡◌, ◌≢◌, ℕ, ⊎_elim, ◌||◌, ◌+◌, ◌-◌, ◌<◌, ◌≤◌, Bool, true, false, cond, List, length, set, get_or, sym, refl, ap, ◌∙◌, subst, arith, length-set, get_or-set_other, get_or-set_same, Some}
use Rattle.std.proofs.lemmas.List.Sums.{sum_by-set}
use Rattle.std.proofs.lemmas.Option.{none-some, same_Some}
use Rattle.std.proofs.lemmas.Bool.{false≢true}
use mathlib.Core.Logic.{dite}
use native.Mathlib.Decide.{ℕ_discrete}
use Rattle.pin_core.specs.State.{Reader, PinState, newcomer, reader, leavings_of, published}
use Rattle.pin_core.specs.Effects.{looking, after_look, pinning, after_pin, leaving, after_unpin, CanLook, CanPin, CanUnpin}
use Rattle.pin_core.specs.StateInvariant.{at_buffer, holders, left_for_good, departed, Sizes, ShowsTheLast, KeepsItsPublication, CountsAnOther, IsBuilt, KnowsItsPlace, HasSeen, Lawful}
use Rattle.pin_core.proofs.ListLemmas.{at_each}
use Rattle.pin_core.proofs.HolderCountLemmas.{same_sum, sum_more, sum_less, at_same, at_other, counts}

-- what an event of a reader leaves as it is
module _ (s : PinState) (n : ℕ) (ls : List ℕ) (rs : List Reader) where
  abbrev moved : PinState
  moved = record s { count = n; leavings = ls; readers = rs }

  still_keeps : (b p : ℕ) → KeepsItsPublication s b p → KeepsItsPublication moved b p
  still_keeps b p k = record { buffer = k.buffer; words = k.words; newest = k.newest; current = k.current; unbuilt = k.unbuilt; unquiet = k.unquiet }

  still_sized : (W : ℕ) → Sizes W s → length ls ≡ 8 → length rs ≡ 6 → Sizes W moved
  still_sized W z counters seats = record { some_words = z.some_words; few_words = z.few_words; buffers = z.buffers; counters = counters; starts = z.starts; seats = seats; widths = z.widths; index = z.index }

  still_last : ShowsTheLast s → ShowsTheLast moved
  still_last l = record { some = l.some; words = l.words }

  still_built : (W b : ℕ) → IsBuilt W s b → get_or ls b 0 ≡ leavings_of s b → IsBuilt W moved b
  still_built W b k same = record { buffer = k.buffer; apart = k.apart; fresh = k.fresh; clean = same ∙ k.clean; room = k.room; front = k.front }

-- a Look that can happen keeps the state lawful
pub look_keeps : (W : ℕ) (s : PinState) (r : ℕ) → Lawful W s → CanLook s r → Lawful W (after_look s r)
look_keeps W s r law can =
    let inside : r < length s.readers = (let l = law.sizes.seats in let c = can.0 in omega arith) in
    let x : Reader = looking s.index (published s) (reader s r) in
    let rs : List Reader = set s.readers r x in
    let same_holders : (b : ℕ) → holders b rs ≡ holders b s.readers = λ b. same_sum (λ (y : Reader). at_buffer b y.held) s.readers r x inside refl in
    let same_gone : departed rs ≡ departed s.readers = same_sum left_for_good s.readers r x inside refl in
    let seats : length rs ≡ 6 = length-set s.readers r x ∙ law.sizes.seats in
    let was = law.seen r in
    let places : (q : ℕ) → KnowsItsPlace s.index (get_or rs q newcomer) = at_each (λ q y. KnowsItsPlace s.index y) s.readers r x newcomer inside
    (record { overtaken = λ b p h ne e. ne (sym e); away = (law.places r).away }) (λ q ne. law.places q) in
    record {
      sizes = still_sized s s.count s.leavings rs W law.sizes law.sizes.counters seats;
      latest = still_last s s.count s.leavings rs law.latest;
      keeps = at_each (λ q y. (b p : ℕ) → y.held ≡ Some (b, p) → KeepsItsPublication (after_look s r) b p) s.readers r x newcomer inside
          (λ b p h. still_keeps s s.count s.leavings rs b p (law.keeps r b p h))
          (λ q ne b p h. still_keeps s s.count s.leavings rs b p (law.keeps q b p h));
      counted = counts (after_look s r) seats places (let c = law.counted.exact in let e = same_holders s.index in omega arith) (let c = law.counted.left in omega arith);
      others = λ b l ne. (let o = (law.others b l ne).exact in let e = same_holders b in record { exact = omega arith; few = (law.others b l ne).few });
      builds = record {
        building = λ b e. still_built s s.count s.leavings rs W b (law.builds.building b e) refl;
        quiet = law.builds.quiet;
      };
      places = places;
      seen = at_each (λ q y. HasSeen (published s) y) s.readers r x newcomer inside
          (let m = law.latest.some in record { some = m; most = omega arith; held = λ b p h. (let k = was.held b p h in let l = was.most in omega arith) })
          (λ q ne. law.seen q);
    }

-- a Pin that can happen keeps the state lawful
pub pin_keeps : (W : ℕ) (s : PinState) (r : ℕ) → Lawful W s → CanPin s r → Lawful W (after_pin s r)
pin_keeps W s r law can =
    let inside : r < length s.readers = (let l = law.sizes.seats in let c = can.0 in omega arith) in
    let x : Reader = pinning s.index (published s) (reader s r) in
    let rs : List Reader = set s.readers r x in
    let some = law.latest.some in
    let free : (b : ℕ) → at_buffer b (reader s r).held ≡ 0 = λ b. ap (at_buffer b) can.2 in
    let here : holders s.index rs ≡ holders s.index s.readers + 1 = sum_more (λ (y : Reader). at_buffer s.index y.held) s.readers r x inside
    (let a = at_same s.index (published s - 1) in let f = free s.index in omega arith) in
    let elsewhere : (b : ℕ) → b ≢ s.index → holders b rs ≡ holders b s.readers = λ b ne. same_sum (λ (y : Reader). at_buffer b y.held) s.readers r x inside
    (at_other s.index b (published s - 1) (λ e. ne (sym e)) ∙ sym (free b)) in
    let same_gone : departed rs ≡ departed s.readers = same_sum left_for_good s.readers r x inside refl in
    let seats : length rs ≡ 6 = length-set s.readers r x ∙ law.sizes.seats in
    let only : (b p : ℕ) → x.held ≡ Some (b, p) → ((s.index, published s - 1) ≡ (b, p)) = λ b p h. same_Some (s.index, published s - 1) (b, p) h in
    let places : (q : ℕ) → KnowsItsPlace s.index (get_or rs q newcomer) = at_each (λ q y. KnowsItsPlace s.index y) s.readers r x newcomer inside
    (record { overtaken = λ b p h ne e. ne (ap (λ (z : ℕ × ℕ). z.0) (only b p h)); away = λ e. absurd (false≢true (sym can.1 ∙ e)) }) (λ q ne. law.places q) in
    record {
      sizes = still_sized s (s.count + 1) s.leavings rs W law.sizes law.sizes.counters seats;
      latest = still_last s (s.count + 1) s.leavings rs law.latest;
      keeps = at_each (λ q y. (b p : ℕ) → y.held ≡ Some (b, p) → KeepsItsPublication (after_pin s r) b p) s.readers r x newcomer inside
          (λ b p h. subst (λ (z : ℕ × ℕ). KeepsItsPublication (after_pin s r) z.0 z.1) (only b p h) record {
            buffer = law.sizes.index;
            words = law.latest.words;
            newest = λ _. refl;
            current = λ _. omega arith;
            unbuilt = λ e. (law.builds.building s.index e).apart refl;
            unquiet = λ e. (law.builds.quiet s.index e).1 refl;
          })
          (λ q ne b p h. still_keeps s (s.count + 1) s.leavings rs b p (law.keeps q b p h));
      counted = counts (after_pin s r) seats places (let c = law.counted.exact in omega arith) (let c = law.counted.left in omega arith);
      others = λ b l ne. (let o = (law.others b l ne).exact in let e = elsewhere b ne in record { exact = omega arith; few = (law.others b l ne).few });
      builds = record {
        building = λ b e. still_built s (s.count + 1) s.leavings rs W b (law.builds.building b e) refl;
        quiet = law.builds.quiet;
      };
      places = places;
      seen = at_each (λ q y. HasSeen (published s) y) s.readers r x newcomer inside
          (record { some = some; most = omega arith; held = λ b p h. (let e : published s - 1 ≡ p = ap (λ (z : ℕ × ℕ). z.1) (only b p h) in omega arith) })
          (λ q ne. law.seen q);
    }

untrue : (t : Bool) → (t ≡ true → ⊥) → t ≡ false
untrue true h = absurd (h refl)
untrue false h = refl

abbrev one_if : Bool → ℕ
one_if t = cond t 1 0

gone_after : (t last : Bool) → t ≡ false → one_if (t || last) ≡ one_if last + one_if t
gone_after true last e = absurd (false≢true (sym e))
gone_after false true e = refl
gone_after false false e = refl

-- an Unpin that can happen keeps the state lawful
pub unpin_keeps : (W : ℕ) (s : PinState) (r b p : ℕ) (last : Bool) → Lawful W s → CanUnpin s r b p last → Lawful W (after_unpin s r b last)
unpin_keeps W s r b p last law can =
    let inside : r < length s.readers = (let l = law.sizes.seats in let c = can.0 in omega arith) in
    let x : Reader = leaving last (reader s r) in
    let rs : List Reader = set s.readers r x in
    let ls : List ℕ = set s.leavings b (leavings_of s b + 1) in
    let kept = law.keeps r b p can.1 in
    let low : b < length s.leavings = (let l = law.sizes.counters in let c = kept.buffer in omega arith) in
    let was : (c : ℕ) → at_buffer c (reader s r).held ≡ at_buffer c (Some (b, p)) = λ c. ap (at_buffer c) can.1 in
    let here : holders b rs + 1 ≡ holders b s.readers = sum_less (λ (y : Reader). at_buffer b y.held) s.readers r x inside (sym (was b ∙ at_same b p)) in
    let elsewhere : (c : ℕ) → c ≢ b → holders c rs ≡ holders c s.readers = λ c ne. same_sum (λ (y : Reader). at_buffer c y.held) s.readers r x inside
    (sym (was c ∙ at_other b c p (λ e. ne (sym e)))) in
    let up : get_or ls b 0 ≡ leavings_of s b + 1 = get_or-set_same s.leavings b (leavings_of s b + 1) 0 low in
    let rest : (c : ℕ) → c ≢ b → get_or ls c 0 ≡ leavings_of s c = λ c ne. get_or-set_other s.leavings b c (leavings_of s b + 1) 0 ne in
    let stayed : (reader s r).gone ≡ false = untrue (reader s r).gone (λ e. none-some (b, p) (sym ((law.places r).away e) ∙ can.1)) in
    let goes : left_for_good x ≡ one_if last + left_for_good (reader s r) = gone_after (reader s r).gone last stayed in
    let departs : departed rs ≡ departed s.readers + one_if last = (let u = sum_by-set left_for_good s.readers r x newcomer inside in omega arith) in
    let seats : length rs ≡ 6 = length-set s.readers r x ∙ law.sizes.seats in
    let places : (q : ℕ) → KnowsItsPlace s.index (get_or rs q newcomer) = at_each (λ q y. KnowsItsPlace s.index y) s.readers r x newcomer inside
    (record { overtaken = λ c m h. absurd (none-some (c, m) h); away = λ e. refl }) (λ q ne. law.places q) in
    record {
      sizes = still_sized s s.count ls rs W law.sizes (length-set s.leavings b (leavings_of s b + 1) ∙ law.sizes.counters) seats;
      latest = still_last s s.count ls rs law.latest;
      keeps = at_each (λ q y. (c m : ℕ) → y.held ≡ Some (c, m) → KeepsItsPublication (after_unpin s r b last) c m) s.readers r x newcomer inside
          (λ c m h. absurd (none-some (c, m) h))
          (λ q ne c m h. still_keeps s s.count ls rs c m (law.keeps q c m h));
      counted = counts (after_unpin s r b last) seats places
          (dite (ℕ_discrete s.index b)
          (λ e. let c = law.counted.exact in let c' : s.count ≡ holders b s.readers + leavings_of s b = subst (λ (k : ℕ). s.count ≡ holders k s.readers + leavings_of s k) e c in
          subst (λ (k : ℕ). s.count ≡ holders k rs + get_or ls k 0) (sym e) (omega arith))
          (λ ne. let c = law.counted.exact in let f = elsewhere s.index ne in let g = rest s.index ne in omega arith))
          (dite (ℕ_discrete s.index b)
          (λ e. let l' : leavings_of s b ≤ departed s.readers = subst (λ (k : ℕ). leavings_of s k ≤ departed s.readers) e law.counted.left in
          let final : one_if last ≡ 1 = ⊎_elim (λ (ne : (reader s r).looked ≢ b). absurd ((law.places r).overtaken b p can.1 ne (sym e))) (λ (t : last ≡ true). ap one_if t) can.2 in
          subst (λ (k : ℕ). get_or ls k 0 ≤ departed rs) (sym e) (omega arith))
          (λ ne. let l = law.counted.left in let g = rest s.index ne in omega arith));
      others = λ c l ne. dite (ℕ_discrete c b)
          (λ e. let o = law.others b kept.buffer (λ i. ne (e ∙ i)) in
          subst (λ (k : ℕ). CountsAnOther (after_unpin s r b last) k) (sym e) (let o₀ = o.exact in record { exact = omega arith; few = o.few }))
          (λ other. let o = law.others c l ne in let f = elsewhere c other in let g = rest c other in let o₀ = o.exact in record { exact = omega arith; few = o.few });
      builds = record {
        building = λ c e. still_built s s.count ls rs W c (law.builds.building c e) (rest c (λ i. kept.unbuilt (e ∙ ap (λ (z : ℕ). Some z) i)));
        quiet = law.builds.quiet;
      };
      places = places;
      seen = at_each (λ q y. HasSeen (published s) y) s.readers r x newcomer inside
          (let w = law.seen r in record { some = w.some; most = w.most; held = λ c m h. absurd (none-some (c, m) h) }) (λ q ne. law.seen q);
    }
