-- An event of the writer keeps the state lawful.
use Rattle.std.proofs.Common.{◌≡◌, ◌≢◌, ℕ, ◌+◌, ◌-◌, ◌<◌, ◌≤◌, eqb, List, [], ◌∷◌, ◌++◌, length, set, get_or, take, sym, refl, ap, ◌∙◌, subst, arith, length-set, get_or-set_other, get_or-set_same, Some}
use Rattle.std.proofs.lemmas.List.{length_push, take_more_set, take_all, get_or_push, get_or_append_left}
use Rattle.std.proofs.lemmas.Option.{none-some, same_Some, cond_some}
use Rattle.std.proofs.lemmas.Bool.{eqb-true}
use mathlib.Core.Logic.{dite}
use native.Mathlib.Decide.{ℕ_discrete}
use Rattle.pin_core.specs.State.{PinState, reader, words_of_buffer, leavings_of, started_of, published}
use Rattle.pin_core.specs.Effects.{after_scan, after_reset, after_write, after_publish, CanScan, CanReset, CanWrite, CanPublish}
use Rattle.pin_core.specs.StateInvariant.{holders, CountsAnOther, IsBuilt, Lawful}
use Rattle.pin_core.proofs.ListLemmas.{at_each}
use Rattle.pin_core.proofs.HolderCountLemmas.{no_holders, counted_once}

-- a Scan that can happen keeps the state lawful
pub scan_keeps : (W : ℕ) (s : PinState) (b : ℕ) → Lawful W s → CanScan s b → Lawful W (after_scan s b)
scan_keeps W s b law can =
    let z = law.sizes in
    let found : (c : ℕ) → (after_scan s b).writer.quiet ≡ Some c → (b ≡ c) × (started_of s b ≡ leavings_of s b) =
    λ c e. (let w = cond_some (eqb (started_of s b) (leavings_of s b)) b c e in (w.1, eqb-true (started_of s b) (leavings_of s b) w.0)) in
    record {
      sizes = record { some_words = z.some_words; few_words = z.few_words; buffers = z.buffers; counters = z.counters; starts = z.starts; seats = z.seats; widths = z.widths; index = z.index };
      latest = record { some = law.latest.some; words = law.latest.words };
      keeps = λ r c p h. (let k = law.keeps r c p h in record {
        buffer = k.buffer;
        words = k.words;
        newest = k.newest;
        current = k.current;
        unbuilt = k.unbuilt;
        unquiet = λ e. (let w = found c e in let o = (law.others b can.0 can.1).exact in
            let some = counted_once s r b p (subst (λ (y : ℕ). (reader s r).held ≡ Some (y, p)) (sym w.0) h) in let w₁ = w.1 in absurd (omega arith));
      });
      counted = record { exact = law.counted.exact; left = law.counted.left; few = law.counted.few };
      others = λ c l ne. (let o = law.others c l ne in record { exact = o.exact; few = o.few });
      builds = record {
        building = λ c e. absurd (none-some c (sym can.2 ∙ e));
        quiet = λ c e. (let w = found c e in subst (λ (y : ℕ). (y < 8) × (y ≢ s.index)) w.0 (can.0, can.1));
      };
      places = law.places;
      seen = law.seen;
    }

-- a Reset that can happen keeps the state lawful
pub reset_keeps : (W : ℕ) (s : PinState) (b : ℕ) → Lawful W s → CanReset s b → Lawful W (after_reset s b)
reset_keeps W s b law can =
    let z = law.sizes in
    let apart : b ≢ s.index = (law.builds.quiet b can.1).1 in
    let low : b < length s.leavings = (let l = z.counters in let c = can.0 in omega arith) in
    let low' : b < length s.writer.started = (let l = z.starts in let c = can.0 in omega arith) in
    let ls : List ℕ = set s.leavings b 0 in
    let ss : List ℕ = set s.writer.started b 0 in
    let empty : holders b s.readers ≡ 0 = no_holders b s.readers (λ r p h. (law.keeps r b p h).unquiet can.1) in
    let zero_l : get_or ls b 0 ≡ 0 = get_or-set_same s.leavings b 0 0 low in
    let zero_s : get_or ss b 0 ≡ 0 = get_or-set_same s.writer.started b 0 0 low' in
    let rest : (c : ℕ) → c ≢ b → get_or ls c 0 ≡ leavings_of s c = λ c ne. get_or-set_other s.leavings b c 0 0 ne in
    let rest' : (c : ℕ) → c ≢ b → get_or ss c 0 ≡ started_of s c = λ c ne. get_or-set_other s.writer.started b c 0 0 ne in
    let at_index : get_or ls s.index 0 ≡ leavings_of s s.index = rest s.index (λ e. apart (sym e)) in
    record {
      sizes = record { some_words = z.some_words; few_words = z.few_words; buffers = z.buffers; counters = length-set s.leavings b 0 ∙ z.counters; starts = length-set s.writer.started b 0 ∙ z.starts; seats = z.seats; widths = z.widths; index = z.index };
      latest = record { some = law.latest.some; words = law.latest.words };
      keeps = λ r c p h. (let k = law.keeps r c p h in record {
        buffer = k.buffer;
        words = k.words;
        newest = k.newest;
        current = k.current;
        unbuilt = λ e. k.unquiet (can.1 ∙ e);
        unquiet = k.unquiet;
      });
      counted = (let c = law.counted.exact in let l = law.counted.left in record { exact = omega arith; left = omega arith; few = law.counted.few });
      others = λ c l ne. dite (ℕ_discrete c b)
          (λ e. subst (λ (k : ℕ). CountsAnOther (after_reset s b) k) (sym e) (record { exact = omega arith; few = omega arith }))
          (λ other. let o₀ = (law.others c l ne).exact in let o₁ = (law.others c l ne).few in let f = rest c other in let g = rest' c other in record { exact = omega arith; few = omega arith });
      builds = record {
        building = λ c e. subst (IsBuilt W (after_reset s b)) (same_Some b c e) record { buffer = can.0; apart = apart; fresh = zero_s; clean = zero_l; room = omega arith; front = refl };
        quiet = law.builds.quiet;
      };
      places = law.places;
      seen = law.seen;
    }

-- a Write that can happen keeps the state lawful
pub write_keeps : (W : ℕ) (s : PinState) (k x b : ℕ) → Lawful W s → CanWrite W s k b → Lawful W (after_write s k x b)
write_keeps W s k x b law can =
    let z = law.sizes in
    let built = law.builds.building b can.0 in
    let row : List ℕ = set (words_of_buffer s b) k x in
    let low : b < length s.words = (let l = z.buffers in let c = built.buffer in omega arith) in
    let rest : (c : ℕ) → c ≢ b → get_or (set s.words b row) c [] ≡ words_of_buffer s c = λ c ne. get_or-set_other s.words b c row [] ne in
    let here : get_or (set s.words b row) b [] ≡ row = get_or-set_same s.words b row [] low in
    let wide : length (words_of_buffer s b) ≡ W = z.widths b built.buffer in
    let at : length s.writer.written ≡ k = can.1 in
    let fits : k < length (words_of_buffer s b) = (let c = can.2 in omega arith) in
    let longer : length (s.writer.written ++ x ∷ []) ≡ k + 1 = length_push s.writer.written x ∙ ap (λ (n : ℕ). n + 1) at in
    let front : take k (words_of_buffer s b) ≡ s.writer.written = subst (λ (n : ℕ). take n (words_of_buffer s b) ≡ s.writer.written) at built.front in
    record {
      sizes = record {
        some_words = z.some_words;
        few_words = z.few_words;
        buffers = length-set s.words b row ∙ z.buffers;
        counters = z.counters;
        starts = z.starts;
        seats = z.seats;
        widths = at_each (λ c y. c < 8 → length y ≡ W) s.words b row [] low (λ _. length-set (words_of_buffer s b) k x ∙ wide) (λ c ne. z.widths c);
        index = z.index;
      };
      latest = record { some = law.latest.some; words = rest s.index (λ e. built.apart (sym e)) ∙ law.latest.words };
      keeps = λ r c p h. (let q = law.keeps r c p h in record {
        buffer = q.buffer;
        words = rest c (λ e. q.unbuilt (can.0 ∙ ap (λ (y : ℕ). Some y) (sym e))) ∙ q.words;
        newest = q.newest;
        current = q.current;
        unbuilt = q.unbuilt;
        unquiet = q.unquiet;
      });
      counted = record { exact = law.counted.exact; left = law.counted.left; few = law.counted.few };
      others = λ c l ne. (let o = law.others c l ne in record { exact = o.exact; few = o.few });
      builds = record {
        building = λ c e. subst (IsBuilt W (after_write s k x b)) (same_Some b c (sym can.0 ∙ e)) record {
          buffer = built.buffer;
          apart = built.apart;
          fresh = built.fresh;
          clean = built.clean;
          room = (let c' = can.2 in omega arith);
          front = ap (λ (n : ℕ). take n (get_or (set s.words b row) b [])) longer ∙ (ap (take (k + 1)) here ∙ (take_more_set (words_of_buffer s b) k x fits ∙ ap (λ (l : List ℕ). l ++ x ∷ []) front));
        };
        quiet = law.builds.quiet;
      };
      places = law.places;
      seen = law.seen;
    }

-- a buffer that was built in full has the words written
pub built_whole : (W : ℕ) (s : PinState) (b : ℕ) → Lawful W s → CanPublish W s b → words_of_buffer s b ≡ s.writer.written
built_whole W s b law can =
    let built = law.builds.building b can.0 in
    let w = law.sizes.widths b built.buffer in let c = can.1 in let le : length (words_of_buffer s b) ≤ length s.writer.written = omega arith in
    sym (take_all (length s.writer.written) (words_of_buffer s b) le) ∙ built.front

-- a Publish that can happen keeps the state lawful
pub publish_keeps : (W : ℕ) (s : PinState) (b : ℕ) → Lawful W s → CanPublish W s b → Lawful W (after_publish s b)
publish_keeps W s b law can =
    let z = law.sizes in
    let built = law.builds.building b can.0 in
    let more : List (List ℕ) = s.writer.publications ++ s.writer.written ∷ [] in
    let longer : length more ≡ published s + 1 = length_push s.writer.publications s.writer.written in
    let starts : List ℕ = set s.writer.started s.index s.count in
    let low : s.index < length s.writer.started = (let l = z.starts in let c = z.index in omega arith) in
    let empty : holders b s.readers ≡ 0 = (let o = (law.others b built.buffer built.apart).exact in let f = built.fresh in omega arith) in
    let some_one = law.latest.some in
    let clean = built.clean in
    let other : (r c p : ℕ) → (reader s r).held ≡ Some (c, p) → c ≢ b = λ r c p h e. (law.keeps r c p h).unbuilt (can.0 ∙ ap (λ (y : ℕ). Some y) (sym e)) in
    record {
      sizes = record { some_words = z.some_words; few_words = z.few_words; buffers = z.buffers; counters = z.counters; starts = length-set s.writer.started s.index s.count ∙ z.starts; seats = z.seats; widths = z.widths; index = built.buffer };
      latest = record {
        some = omega arith;
        words = built_whole W s b law can ∙ (sym (get_or_push s.writer.publications s.writer.written [] (published s) refl) ∙ ap (λ (n : ℕ). get_or more n []) (let e : published s ≡ length more - 1 = omega arith in e));
      };
      keeps = λ r c p h. (let k = law.keeps r c p h in let kn = (law.seen r).held c p h in let se = (law.seen r).most in record {
        buffer = k.buffer;
        words = k.words ∙ sym (get_or_append_left s.writer.publications (s.writer.written ∷ []) [] p (omega arith));
        newest = λ e. absurd (omega arith);
        current = λ e. absurd (other r c p h e);
        unbuilt = λ e. none-some c e;
        unquiet = λ e. none-some c e;
      });
      counted = record { exact = omega arith; left = omega arith; few = omega arith };
      others = λ c l ne. dite (ℕ_discrete c s.index)
          (λ e. subst (λ (k : ℕ). CountsAnOther (after_publish s b) k) (sym e)
          (let g = get_or-set_same s.writer.started s.index s.count 0 low in let k = law.counted.exact in let f = law.counted.few in record { exact = omega arith; few = omega arith }))
          (λ apart. let o₀ = (law.others c l apart).exact in let o₁ = (law.others c l apart).few in let g = get_or-set_other s.writer.started s.index c s.count 0 apart in record { exact = omega arith; few = omega arith });
      builds = record {
        building = λ c e. absurd (none-some c e);
        quiet = λ c e. absurd (none-some c e);
      };
      places = λ r. record { overtaken = λ c p h _. other r c p h; away = (law.places r).away };
      seen = λ r. (let w₀ = (law.seen r).some in let w₁ = (law.seen r).most in record { some = w₀; most = omega arith; held = (law.seen r).held });
    }
