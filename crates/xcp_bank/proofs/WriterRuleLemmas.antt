-- Each step of the writer keeps the bank's rule.
use Rattle.std.proofs.Common.{◌≡◌, ◌≢◌, ℕ, suc, ◌+◌, ◌-◌, ◌*◌, ◌%◌, ◌<◌, ◌≤◌, cond, eqb, List, [], ◌∷◌, ◌++◌, length, take, set, get_or, sym, refl, ap, ◌∙◌, subst, arith, length-set, get_or-set_other, get_or-set_same, Some, None, Option, zero}
use Rattle.std.proofs.lemmas.Option.{same_Some}
use Rattle.std.proofs.lemmas.List.{set-get_or, set-set, length_push, take-append-le, get_or_push, get_or_append_left}
use mathlib.Core.Logic.{dite}
use native.Mathlib.Decide.{ℕ_discrete, dec_le}
use mathlib.Core.Option.{some, some-ne-none}
use Rattle.atomic_table.proofs.Lists.{set_again, set_here}
use lib.ListN.{get_elem?}
use Rattle.atomic_table.specs.Table.{State, Step, keeps, Allows}
use Rattle.pin_core.specs.State.{Reader, Writer, PinState, newcomer, words_of_buffer, leavings_of, started_of, published, publication_at}
use Rattle.pin_core.specs.Effects.{scanning, CanScan, after_scan, CanReset, after_reset, CanWrite, after_write, CanPublish, after_publish}
use Rattle.pin_core.specs.StateInvariant.{Lawful, holders}
use Rattle.pin_core.proofs.WriterStepLemmas.{scan_keeps, reset_keeps, write_keeps, publish_keeps}
use Rattle.pin_core.proofs.IdleBufferLaws.{some_idle}
use Rattle.xcp_bank.specs.SeatKnowledge.{Writing, Known}
use Rattle.xcp_bank.specs.private.Everybody.{the_writer}
use Rattle.xcp_bank.specs.TableRule.{Shows, IsNumbered, Leads, Banked, IsBank}
use Rattle.xcp_bank.specs.private.ReaderSteps.{Seat}
use Rattle.xcp_bank.specs.private.WriterSteps.{writer_plays, Scanned, writing_after_scan, WasReset, writing_after_reset, Written, writing_after_write, rewritten, Peeked, standing, word_there, WrittenAgain, KeptUpTo, SeatPublished, writing_after_publish}
use Rattle.xcp_bank.proofs.OtherSeatLemmas.{seat_step}
use Rattle.xcp_bank.proofs.PlaceLemmas.{lower}
use Rattle.pin_core.specs.declared.events.Seen.TheVariants as an
use Rattle.pin_core.specs.Steps.{Steps}
use Rattle.xcp_bank.specs.PinHistory.{Deed, doer, Grows, has_scanned, has_reset, has_written, has_published}
use Rattle.xcp_bank.proofs.HistoryLemmas.{grows_none, runs_more}
use Rattle.pin_core.specs.State.{opening}
use Rattle.xcp_bank.proofs.ReaderRuleLemmas.{few}

-- places in two buffers of W words are two places
places_apart : (W c b j k : ℕ) → c ≢ b → j < W → k < W → c * W + j ≢ b * W + k
places_apart W c b j k ne jl kl e = dite (dec_le (suc c) b)
    (λ lt. let l = lower W c b j k lt jl in let p : ℕ = c * W + j in let q : ℕ = b * W + k in let l' : p < q = l in let e' : p ≡ q = e in omega arith)
    (λ nl. let l = lower W b c k j (let z : b < c = omega arith in z) kl in let p : ℕ = c * W + j in let q : ℕ = b * W + k in let l' : q < p = l in let e' : p ≡ q = e in omega arith)

module _ (W : ℕ) (t : State (Unit {0}) Known) (b : Banked W t) (id : ℕ) (w : Writing) (at : get_elem? t.views id ≡ some (the_writer w)) where
  abbrev s : PinState
  s = b.core

  leads : Leads b.core w
  leads = (b.writer id (the_writer w) w at refl).1

  at_seat : b.writer_seat ≡ id
  at_seat = (b.writer id (the_writer w) w at refl).0

  none_else : (q : ℕ) → suc q ≡ 0 → ⊥
  none_else q e = absurd (omega arith)

  grows : Grows 0 w.history b.history []
  grows = b.noted id (the_writer w) w at refl

  -- a step of the writer, which leaves the readers
  writer_step : (ws : List ℕ) (u : PinState) (w' : Writing) → Lawful W u → Shows W ws u → ((p : ℕ) → p < published u → IsNumbered W p (publication_at u p)) → Leads u w' → u.readers ≡ b.core.readers
      → ((n : ℕ) → n ≤ published b.core → take n u.writer.publications ≡ take n b.core.writer.publications)
      → (d : Deed) → Steps W b.core d.0 d.1 u → doer d.0 ≡ 0 → w'.history ≡ b.history ++ d ∷ []
      → Banked W record { words = ws; homes = t.homes; views = set t.views id (the_writer w') }
  writer_step ws u w' law shows numbered lead same grow d step doer_is history =
      seat_step W t b id (the_writer w') ws u law shows numbered tt
      (λ v e. (at_seat, subst (Leads u) (same_Some w' v e) lead))
      (λ q other. ap (λ (l : List Reader). get_or l q newcomer) same)
      grow
      (λ other v k. absurd (other at_seat))
      d step tt (λ q other e. none_else q (e ∙ doer_is))
      (λ v e. subst (λ (z : Writing). Grows 0 z.history (b.history ++ d ∷ []) []) (same_Some w' v e) (subst (λ (h : List Deed). Grows 0 h (b.history ++ d ∷ []) []) (sym history) (grows_none 0 (b.history ++ d ∷ []))))
      (λ other e. other at_seat)

  pub scan_step : (c : ℕ) → c < 8 → c ≢ w.current → w.pins.building ≡ None
      → (let n : ℕ = get_or t.words (1 + c) 0 in Banked W record { words = set t.words (1 + c) n; homes = t.homes; views = set t.views id (the_writer (writing_after_scan c n b.history w)) } × Scanned W c w n (writing_after_scan c n b.history w))
  scan_step c low apart none =
      let n : ℕ = get_or t.words (1 + c) 0 in
      let k = leads in
      let here : n ≡ leavings_of s c = b.shows.left c low in
      let can : CanScan s c = (low, (λ e. apart (e ∙ k.current)), ap (λ (z : Writer). z.building) k.pins ∙ none) in
      let starts : started_of s c ≡ get_or w.pins.started c 0 = ap (λ (z : Writer). get_or z.started c 0) k.pins in
      let scanned : (after_scan s c).writer ≡ scanning c n w.pins = (λ i. record (k.pins i) { quiet = cond (eqb (get_or (k.pins i).started c 0) (sym here i)) (Some c) None }) in (
        writer_step (set t.words (1 + c) n) (after_scan s c) (writing_after_scan c n b.history w) (scan_keeps W s c b.lawful can)
            (subst (λ (ws : List ℕ). Shows W ws (after_scan s c)) (sym (set-get_or t.words (1 + c) 0)) record { size = b.shows.size; head = b.shows.head; left = b.shows.left; image = b.shows.image })
            b.numbered
            record { pins = scanned; current = k.current; words = k.words; idle = k.idle; apart = k.apart; unheld = k.unheld }
            refl (λ m l. refl) (has_scanned c n) (can, ap an.Leavings here, refl) refl refl,
        record {
          before = b.history;
          grows = grows;
          is = refl;
          found = λ e. (let o = (b.lawful.others c low can.1).exact in let z : holders c s.readers ≡ 0 = ap (λ (q : ℕ). holders q s.readers) e ∙ k.unheld in omega arith);
          up_to_date = record {
            state = after_scan s c;
            ran = (b.first, b.wide, runs_more W (opening b.first) s (after_scan s c) b.history (has_scanned c n) b.run (can, ap an.Leavings here, refl));
            index = k.current;
            pins = scanned;
          };
        },
      )

  pub reset_step : (c : ℕ) → c < 8 → w.pins.quiet ≡ Some c
      → Banked W record { words = set t.words (1 + c) 0; homes = t.homes; views = set t.views id (the_writer (writing_after_reset c b.history w)) }
  reset_step c low quiet =
      let k = leads in
      let can : CanReset s c = (low, ap (λ (z : Writer). z.quiet) k.pins ∙ quiet) in
      let size = b.shows.size in
      let there : 1 + c < length t.words = omega arith in
      let low' : c < length s.leavings = (let n = b.lawful.sizes.counters in omega arith) in
      writer_step (set t.words (1 + c) 0) (after_reset s c) (writing_after_reset c b.history w) (reset_keeps W s c b.lawful can)
      record {
        size = length-set t.words (1 + c) 0 ∙ b.shows.size;
        head = get_or-set_other t.words (1 + c) 0 0 0 (λ e. omega arith) ∙ b.shows.head;
        left = λ d g. dite (ℕ_discrete d c)
            (λ e. subst (λ (z : ℕ). get_or (set t.words (1 + c) 0) (1 + z) 0 ≡ get_or (set s.leavings c 0) z 0) (sym e)
            (get_or-set_same t.words (1 + c) 0 0 there ∙ sym (get_or-set_same s.leavings c 0 0 low')))
            (λ ne. get_or-set_other t.words (1 + c) (1 + d) 0 0 (λ e. omega arith) ∙ (b.shows.left d g ∙ sym (get_or-set_other s.leavings c d 0 0 ne)));
        image = λ d j g h. get_or-set_other t.words (1 + c) (9 + (d * W + j)) 0 0 (λ e. omega arith) ∙ b.shows.image d j g h;
      }
      b.numbered
      record {
        pins = (λ i. record (k.pins i) { started = set (k.pins i).started c 0; building = Some c; written = [] });
        current = k.current;
        words = k.words;
        idle = k.idle;
        apart = k.apart;
        unheld = k.unheld;
      }
      refl (λ m l. refl) (has_reset c) (can, refl, refl) refl refl

  pub write_step : (c x : ℕ) → w.pins.building ≡ Some c → length w.pins.written < W
      → Banked W record { words = set t.words (9 + (c * W + length w.pins.written)) x; homes = t.homes; views = set t.views id (the_writer (writing_after_write x b.history w)) }
  write_step c x building room =
      let k = leads in
      let n : ℕ = length w.pins.written in
      let n_is : length s.writer.written ≡ n = ap (λ (z : Writer). length z.written) k.pins in
      let can : CanWrite W s n c = (ap (λ (z : Writer). z.building) k.pins ∙ building, n_is, room) in
      let built = b.lawful.builds.building c can.0 in
      let place : ℕ = c * W + n in
      let row : List ℕ = set (words_of_buffer s c) n x in
      let size = b.shows.size in
      let fits : place < 8 * W + 0 = lower W c 8 n 0 built.buffer room in
      let there : 9 + place < length t.words = (let z : ℕ = 8 * W in omega arith) in
      let low' : c < length s.words = (let l = b.lawful.sizes.buffers in let g = built.buffer in omega arith) in
      let wide : length (words_of_buffer s c) ≡ W = b.lawful.sizes.widths c built.buffer in
      let inside : n < length (words_of_buffer s c) = omega arith in
      writer_step (set t.words (9 + place) x) (after_write s n x c) (writing_after_write x b.history w) (write_keeps W s n x c b.lawful can)
      record {
        size = length-set t.words (9 + place) x ∙ b.shows.size;
        head = get_or-set_other t.words (9 + place) 0 x 0 (λ e. omega arith) ∙ b.shows.head;
        left = λ d g. get_or-set_other t.words (9 + place) (1 + d) x 0 (λ e. omega arith) ∙ b.shows.left d g;
        image = λ d j g h. dite (ℕ_discrete d c)
            (λ e. subst (λ (z : ℕ). get_or (set t.words (9 + place) x) (9 + (z * W + j)) 0 ≡ get_or (get_or (set s.words c row) z []) j 0) (sym e)
            (dite (ℕ_discrete j n)
            (λ same. subst (λ (m : ℕ). get_or (set t.words (9 + place) x) (9 + (c * W + m)) 0 ≡ get_or (get_or (set s.words c row) c []) m 0) (sym same)
            (get_or-set_same t.words (9 + place) x 0 there ∙ sym (ap (λ (l : List ℕ). get_or l n 0) (get_or-set_same s.words c row [] low') ∙
            get_or-set_same (words_of_buffer s c) n x 0 inside)))
            (λ other. get_or-set_other t.words (9 + place) (9 + (c * W + j)) x 0 (λ e'. (let p : ℕ = c * W in omega arith)) ∙ (b.shows.image c j built.buffer h ∙
            sym (ap (λ (l : List ℕ). get_or l j 0) (get_or-set_same s.words c row [] low') ∙ get_or-set_other (words_of_buffer s c) n j x 0 other)))))
            (λ ne. get_or-set_other t.words (9 + place) (9 + (d * W + j)) x 0 (λ e'. (let a = places_apart W d c j n ne h room in let p : ℕ = d * W + j in let q : p ≡ place = omega arith in a q)) ∙ (b.shows.image d j g h ∙
            ap (λ (l : List ℕ). get_or l j 0) (sym (get_or-set_other s.words c d row [] ne))));
      }
      b.numbered
      record {
        pins = (λ i. record (k.pins i) { written = (k.pins i).written ++ x ∷ [] });
        current = k.current;
        words = (λ i. rewritten (sym building i) n x (k.words i));
        idle = k.idle;
        apart = k.apart;
        unheld = k.unheld;
      }
      refl (λ m l. refl) (has_written n x) (c, can, refl, refl) refl refl

  -- what was written is numbered, and the publications before are as they were
  numbered_more : (c : ℕ) → length w.pins.written ≡ W → get_or w.pins.written (W - 1) 0 ≡ length w.pins.publications % 18446744073709551616
      → (p : ℕ) → p < published (after_publish s c) → IsNumbered W p (publication_at (after_publish s c) p)
  numbered_more c full last p l =
      let k = leads in
      let long : published (after_publish s c) ≡ published s + 1 = length_push s.writer.publications s.writer.written in
      let many : published s ≡ length w.pins.publications = ap (λ (z : Writer). length z.publications) k.pins in
      dite (ℕ_discrete p (published s))
      (λ e. subst (λ (q : ℕ). IsNumbered W q (publication_at (after_publish s c) q)) (sym e)
      (subst (IsNumbered W (published s)) (sym (get_or_push s.writer.publications s.writer.written [] (published s) refl))
      record { size = ap (λ (z : Writer). length z.written) k.pins ∙ full; number = ap (λ (z : Writer). get_or z.written (W - 1) 0) k.pins ∙ (last ∙ ap (λ (m : ℕ). m % 18446744073709551616) (sym many)) }))
      (λ ne. (let low : p < published s = omega arith in subst (IsNumbered W p) (sym (get_or_append_left s.writer.publications (s.writer.written ∷ []) [] p low)) (b.numbered p low)))

  pub publish_step : (c : ℕ) → w.pins.building ≡ Some c → length w.pins.written ≡ W → get_or w.pins.written (W - 1) 0 ≡ length w.pins.publications % 18446744073709551616
      → (u : Writing) × Banked W record { words = set t.words 0 (c * 4294967296); homes = t.homes; views = set t.views id (the_writer u) } × SeatPublished W c w (get_or t.words 0 0) u
  publish_step c building full last =
      let k = leads in
      let can : CanPublish W s c = (ap (λ (z : Writer). z.building) k.pins ∙ building, ap (λ (z : Writer). length z.written) k.pins ∙ full) in
      let law = publish_keeps W s c b.lawful can in
      let idle = some_idle W (after_publish s c) law in
      let size = b.shows.size in
      let first : 0 < length t.words = omega arith in
      let u = writing_after_publish c s.count idle.0 b.history w in (
        u,
        writer_step (set t.words 0 (c * 4294967296)) (after_publish s c) u law
            record {
              size = length-set t.words 0 (c * 4294967296) ∙ b.shows.size;
              head = get_or-set_same t.words 0 (c * 4294967296) 0 first ∙ (let p : ℕ = c * 4294967296 in let e : p ≡ p + 0 = omega arith in e);
              left = λ d g. get_or-set_other t.words 0 (1 + d) (c * 4294967296) 0 (λ e. omega arith) ∙ b.shows.left d g;
              image = λ d j g h. get_or-set_other t.words 0 (9 + (d * W + j)) (c * 4294967296) 0 (λ e. omega arith) ∙ b.shows.image d j g h;
            }
            (numbered_more c full last)
            record {
              pins = (λ i. record { started = set (k.pins i).started (k.current i) s.count; quiet = None; building = None; written = []; publications = (k.pins i).publications ++ (k.pins i).written ∷ [] });
              current = refl;
              words = k.words;
              idle = idle.1.0;
              apart = idle.1.1;
              unheld = idle.1.2;
            }
            refl
            (λ m l. take-append-le m s.writer.publications (s.writer.written ∷ []) l)
            has_published (c, can, refl, refl) refl refl,
        record {
          count = s.count;
          idle = idle.0;
          before = b.history;
          grows = grows;
          found = b.shows.head ∙ ap (λ (i : ℕ). i * 4294967296 + s.count) k.current;
          few = few W t b;
          is = refl;
          low = idle.1.0;
          apart = idle.1.1;
          up_to_date = record {
            state = after_publish s c;
            ran = (b.first, b.wide, runs_more W (opening b.first) s (after_publish s c) b.history has_published b.run (c, can, refl, refl));
            index = refl;
            pins = (λ i. record { started = set (k.pins i).started (k.current i) s.count; quiet = None; building = None; written = []; publications = (k.pins i).publications ++ (k.pins i).written ∷ [] });
          };
        },
      )

-- the words that stand somewhere, written again, are what was there
same_words : (o : Option ℕ) (k : ℕ) (words : List (List ℕ)) → rewritten o k (word_there o k words) words ≡ words
same_words None k words = refl
same_words (Some b) k words = ap (set words b) (set-get_or (get_or words b []) k 0) ∙ set-get_or words b []

-- Writes of what stands there leave what is being built, and all words of the buffers
pub again_keeps : (n : ℕ) (w u : Writing) → WrittenAgain n w u → (u.pins.building ≡ w.pins.building) × (length u.pins.written ≡ length w.pins.written + n) × (u.words ≡ w.words)
again_keeps zero w u e = (ap (λ (z : Writing). z.pins.building) e, (let s : length u.pins.written ≡ length w.pins.written = ap (λ (z : Writing). length z.pins.written) e in omega arith), ap (λ (z : Writing). z.words) e)
again_keeps (suc n) w u (v, before, last) =
    let h = again_keeps n w v before in
    let long : length u.pins.written ≡ length v.pins.written + 1 = ap (λ (z : Writing). length z.pins.written) last.is ∙ length_push v.pins.written (standing v) in
    let was = h.1 in (
      ap (λ (z : Writing). z.pins.building) last.is ∙ h.0,
      omega arith,
      ap (λ (z : Writing). z.words) last.is ∙ (same_words v.pins.building (length v.pins.written) v.words ∙ h.2),
    )

below : {A : Type 0} (l : List A) (i : ℕ) (a : A) → get_elem? l i ≡ some a → i < length l
below [] zero a e = absurd (some-ne-none a (sym e))
below [] (suc i) a e = absurd (some-ne-none a (sym e))
below (x ∷ l) zero a e = omega arith
below (x ∷ l) (suc i) a e = let h = below l i a e in omega arith

module _ (W : ℕ) (t : State (Unit {0}) Known) (b : Banked W t) (id : ℕ) (w : Writing) (at : get_elem? t.views id ≡ some (the_writer w)) where
  -- a word of the table that is word k of the buffer c is as the writer knows it
  pub word_known : (i c k : ℕ) → c < 8 → k < W → i ≡ 9 + (c * W + k) → get_or t.words i 0 ≡ get_or (get_or w.words c []) k 0
  word_known i c k low inside place = ap (λ (j : ℕ). get_or t.words j 0) place ∙ (b.shows.image c k low inside ∙ ap (λ (l : List (List ℕ)). get_or (get_or l c []) k 0) (leads W t b id w at).words)

  -- a step of the writer by which nothing changes
  pub still_step : (i : ℕ) → Banked W record { words = set t.words i (get_or t.words i 0); homes = t.homes; views = set t.views id (the_writer w) }
  still_step i = subst (λ (z : List ℕ × List Known). Banked W record { words = z.0; homes = t.homes; views = z.1 }) (λ j. (sym (set-get_or t.words i 0) j, sym (set_again t.views id (the_writer w) at) j)) b

  -- Writes of n words that stand there already, at once: no word of the table changes
  again_step : (n c : ℕ) → w.pins.building ≡ Some c → length w.pins.written + n ≤ W → (u : Writing) × Banked W record { words = t.words; homes = t.homes; views = set t.views id (the_writer u) } × WrittenAgain n w u
  again_step zero c building room = (w, subst (λ (l : List Known). Banked W record { words = t.words; homes = t.homes; views = l }) (sym (set_again t.views id (the_writer w) at)) b, refl)
  again_step (suc n) c building room =
      let before = again_step n c building (let r = room in omega arith) in
      let v : Writing = before.0 in
      let t' : State (Unit {0}) Known = record { words = t.words; homes = t.homes; views = set t.views id (the_writer v) } in
      let b' : Banked W t' = before.1 in
      let here : get_elem? t'.views id ≡ some (the_writer v) = set_here t.views id (the_writer v) (below t.views id (the_writer w) at) in
      let h = again_keeps n w v before.2 in
      let built : v.pins.building ≡ Some c = h.0 ∙ building in
      let k : ℕ = length v.pins.written in
      let long : k ≡ length w.pins.written + n = h.1 in
      let inside : k < W = omega arith in
      let lead = leads W t' b' id v here in
      let low : c < 8 = (b'.lawful.builds.building c (ap (λ (z : Writer). z.building) lead.pins ∙ built)).buffer in
      let place : ℕ = 9 + (c * W + k) in
      let is : get_or t.words place 0 ≡ standing v = b'.shows.image c k low inside ∙ (ap (λ (l : List (List ℕ)). get_or (get_or l c []) k 0) lead.words ∙ ap (λ (o : Option ℕ). word_there o k v.words) (sym built)) in
      let u = writing_after_write (standing v) b'.history v in
      let written = write_step W t' b' id v here c (standing v) built inside in
      let words : set t.words place (standing v) ≡ t.words = ap (set t.words place) (sym is) ∙ set-get_or t.words place 0 in (
        u,
        subst (λ (z : List ℕ × List Known). Banked W record { words = z.0; homes = t.homes; views = z.1 }) (λ i. (words i, set-set t.views id (the_writer v) (the_writer u) i)) written,
        (v, before.2, record { before = b'.history; grows = grows W t' b' id v here; is = refl }),
      )

  pub keep_step : (i n c : ℕ) → w.pins.building ≡ Some c → length w.pins.written + n ≤ W → i ≡ 9 + (c * W + (length w.pins.written + n))
      → (u : Writing) × Banked W record { words = set t.words i (get_or t.words i 0); homes = t.homes; views = set t.views id (the_writer u) } × KeptUpTo W i w (get_or t.words i 0) u
  keep_step i n c building room place =
      let m = again_step n c building room in (
        m.0,
        subst (λ (l : List ℕ). Banked W record { words = l; homes = t.homes; views = set t.views id (the_writer m.0) }) (sym (set-get_or t.words i 0)) m.1,
        record { count = n; place = λ d e. (place ∙ ap (λ (j : ℕ). 9 + (j * W + (length w.pins.written + n))) (same_Some c d (sym building ∙ e))); writes = m.2 },
      )

-- what the writer owes of each state
module _ (W id : ℕ) (w : Writing) (i : ℕ) (f : ℕ → ℕ) (after : Writing → ℕ → Writing → Type 0) where
  abbrev pub Makes : Type 0
  Makes = (t : State (Unit {0}) Known) (b : Banked W t) → get_elem? t.views id ≡ some (the_writer w)
      → (u : Writing) × Banked W record { words = set t.words i (f (get_or t.words i 0)); homes = t.homes; views = set t.views id (the_writer u) } × after w (get_or t.words i 0) u

  writer_is : (v : Writing) → the_writer w ≡ the_writer v → w ≡ v
  writer_is v e = same_Some w v (ap (λ (z : Known). z.writer) e)

  fits_writer : (c : List (ℕ × Unit {0})) → Makes → (st : Step (Unit {0})) → Allows IsBank W id (the_writer w, c) i f (writer_plays after st (the_writer w, c))
  fits_writer c make st t b homes at fits =
      let m = make t (subst (λ (n : ℕ). Banked n t) homes b) at in
      (the_writer m.0, keeps, tt, subst (λ (n : ℕ). Banked n record { words = set t.words i (f (get_or t.words i 0)); homes = t.homes; views = set t.views id (the_writer m.0) }) (sym homes) m.1, λ v e. let same = writer_is v e in (m.0, refl, subst (λ (z : Writing). after z (get_or t.words i 0) m.0) same m.2))

  pub lets : (me : Seat) → me.0 ≡ the_writer w → Makes → (st : Step (Unit {0})) → Allows IsBank W id me i f (writer_plays after st me)
  lets me is make st = subst (λ (v : Known). Allows IsBank W id (v, me.1) i f (writer_plays after st (v, me.1))) (sym is) (fits_writer me.1 make st)

-- the rule allows the writer a Scan, which leaves the word, of a buffer not current, while none is being built
pub scan_allowed : (W id : ℕ) (w : Writing) (me : Seat) (c : ℕ) → me.0 ≡ the_writer w → c < 8 → c ≢ w.current → w.pins.building ≡ None → (st : Step (Unit {0}))
    → Allows IsBank W id me (1 + c) (λ n. n) (writer_plays (Scanned W c) st me)
scan_allowed W id w me c is low apart none st = lets W id w (1 + c) (λ n. n) (Scanned W c) me is
    (λ t b at. let p = scan_step W t b id w at c low apart none in (writing_after_scan c (get_or t.words (1 + c) 0) b.history w, p.0, p.1)) st

-- the rule allows the writer a Publish of a buffer built in full that ends with its number, modulo 2^64
pub publish_allowed : (W id : ℕ) (w : Writing) (me : Seat) (c : ℕ) → me.0 ≡ the_writer w → w.pins.building ≡ Some c → length w.pins.written ≡ W → get_or w.pins.written (W - 1) 0 ≡ length w.pins.publications % 18446744073709551616 → (st : Step (Unit {0}))
    → Allows IsBank W id me 0 (λ _. c * 4294967296) (writer_plays (SeatPublished W c) st me)
publish_allowed W id w me c is building full last st = lets W id w 0 (λ _. c * 4294967296) (SeatPublished W c) me is (λ t b at. publish_step W t b id w at c building full last) st

-- the rule allows the writer a Reset, which makes the leavings 0, of a buffer that it found quiet
pub reset_allowed : (W id : ℕ) (w : Writing) (me : Seat) (c : ℕ) → me.0 ≡ the_writer w → c < 8 → w.pins.quiet ≡ Some c → (st : Step (Unit {0}))
    → Allows IsBank W id me (1 + c) (λ _. 0) (λ n. writer_plays (WasReset c) st me 0)
reset_allowed W id w me c is low quiet st = lets W id w (1 + c) (λ _. 0) (λ v n u. WasReset c v 0 u) me is
    (λ t b at. (writing_after_reset c b.history w, reset_step W t b id w at c low quiet, record { before = b.history; grows = grows W t b id w at; is = refl })) st

-- the rule allows the writer a Write of the next word of the buffer that is being built
pub write_allowed : (W id : ℕ) (w : Writing) (me : Seat) (c k x : ℕ) → me.0 ≡ the_writer w → w.pins.building ≡ Some c → length w.pins.written ≡ k → k < W → (st : Step (Unit {0}))
    → Allows IsBank W id me (9 + (c * W + k)) (λ _. x) (λ n. writer_plays (Written x) st me x)
write_allowed W id w me c k x is building at_k room st = lets W id w (9 + (c * W + k)) (λ _. x) (λ v n u. Written x v x u) me is
    (λ t b at. (
      writing_after_write x b.history w,
      subst (λ (m : ℕ). Banked W record { words = set t.words (9 + (c * W + m)) x; homes = t.homes; views = set t.views id (the_writer (writing_after_write x b.history w)) }) at_k (write_step W t b id w at c x building (let r = room in omega arith)),
      record { before = b.history; grows = grows W t b id w at; is = refl },
    )) st

-- the rule allows the writer a load of any word, by which nothing changes
pub peek_allowed : (W id : ℕ) (w : Writing) (me : Seat) (i : ℕ) → me.0 ≡ the_writer w → (st : Step (Unit {0})) → Allows IsBank W id me i (λ n. n) (writer_plays (Peeked W i) st me)
peek_allowed W id w me i is st = lets W id w i (λ n. n) (Peeked W i) me is
    (λ t b at. (w, still_step W t b id w at i, record { is = refl; found = λ c k low inside place. word_known W t b id w at i c k low inside place })) st

-- and a load of a word of the buffer that is being built, by which the words before it are written again
pub keep_allowed : (W id : ℕ) (w : Writing) (me : Seat) (i n c : ℕ) → me.0 ≡ the_writer w → w.pins.building ≡ Some c → length w.pins.written + n ≤ W → i ≡ 9 + (c * W + (length w.pins.written + n)) → (st : Step (Unit {0}))
    → Allows IsBank W id me i (λ m. m) (writer_plays (KeptUpTo W i) st me)
keep_allowed W id w me i n c is building room place st = lets W id w i (λ m. m) (KeptUpTo W i) me is (λ t b at. keep_step W t b id w at i n c building room place) st
