-- What several steps of the writer come to.
use Rattle.std.proofs.Common.{◌≡◌, ◌≢◌, ℕ, zero, ◌+◌, ◌-◌, ◌<◌, ◌≤◌, Bool, true, cond, eqb, eq-eqb, suc, List, [], ◌∷◌, ◌++◌, append_assoc, length, take, set, get_or, sym, refl, ap, ◌∙◌, subst, arith, Some, None, length-set, get_or-set_same, get_or-set_other}
use Rattle.std.proofs.lemmas.List.{take_more, length_push, length-take-le}
use Rattle.xcp_bank.specs.PinHistory.{Deed, Grows, has_scanned, has_reset, has_written, has_published, writes_of}
use Rattle.xcp_bank.proofs.HistoryLemmas.{grows_none, grows_again, grows_act, scans_more}
use Rattle.atomic_table.specs.Seated.{TableId}
use Rattle.atomic_table.specs.declared.shared.Seat.{Seat as Token}
use mathlib.Core.Logic.{dite}
use native.Mathlib.Decide.{ℕ_discrete, dec_le}
use Rattle.xcp_bank.specs.SeatKnowledge.{Writing, Known}
use Rattle.xcp_bank.proofs.WriterRuleLemmas.{again_keeps}
use Rattle.xcp_bank.specs.private.WriterSteps.{Scanned, WasReset, Written, WrittenAgain, standing, word_there, rewritten, SeatPublished, writing_after_scan, writing_after_reset, writing_after_publish}
use Rattle.xcp_bank.specs.private.BlockMarks.{Sized}
use Rattle.xcp_bank.specs.private.SeatSteps.{IsWriterSeat, HasWords, WrittenSoFar, Rests, Searched, FoundQuiet, scanned_to, filled, Publishes}

-- before the first Scan no buffer has been searched, and the writer is as it was
pub searched_none : (w : Writing) → Searched 0 w w
searched_none w = record { quiet = w.pins.quiet; history = w.history; is = refl; scans = []; grows = grows_none 0 w.history; only = tt; most = omega arith; fewer = (λ l. absurd (omega arith)); not_yet = omega arith }

module _ (w : Writing) (current : ℕ) (started : List ℕ) (rests : Rests current started w) (b : ℕ) (u : Writing) (s : Searched b w u) where
  pub searched_skip : b ≡ current → Searched (b + 1) w u
  searched_skip is =
      let m = s.most in let a = rests.apart in let c = rests.current_is in let n = s.not_yet in
      let ne : b ≢ w.idle = λ e. a (sym e ∙ (is ∙ sym c)) in
      record { quiet = s.quiet; history = s.history; is = s.is; scans = s.scans; grows = s.grows; only = s.only; most = omega arith; fewer = (λ l. omega arith); not_yet = omega arith }

  module _ (apart : b ≢ current) (low : b < 8) (W n : ℕ) (v : Writing) (g : Scanned W b u n v) where
    scanned : v ≡ scanned_to (cond (eqb (get_or w.pins.started b 0) n) (Some b) None) (g.before ++ has_scanned b n ∷ []) w
    scanned = g.is ∙ ap (writing_after_scan b n g.before) s.is

    grown : Grows 0 w.history (g.before ++ has_scanned b n ∷ []) (s.scans ++ has_scanned b n ∷ [])
    grown = grows_act 0 w.history s.history g.before s.scans (has_scanned b n) refl s.grows (subst (λ (z : Writing). Grows 0 z.history g.before []) s.is g.grows)

    longer : length (s.scans ++ has_scanned b n ∷ []) ≡ length s.scans + 1
    longer = length_push s.scans (has_scanned b n)

    started_is : get_or u.pins.started b 0 ≡ get_or started b 0
    started_is = ap (λ (z : Writing). get_or z.pins.started b 0) s.is ∙ ap (λ (l : List ℕ). get_or l b 0) rests.started_is

    past : w.current < b + 1 → w.current < b
    past l = let c = rests.current_is in let a : w.current ≢ b = (λ e. apart (sym e ∙ c)) in omega arith

    pub searched_more : n ≢ get_or started b 0 → Searched (b + 1) w v
    searched_more other =
        let m = s.most in let y = s.not_yet in let f = s.fewer in let long = longer in
        let ne : b ≢ w.idle = λ e. other (sym (g.found (e ∙ sym (ap (λ (z : Writing). z.idle) s.is))) ∙ started_is) in
        record { quiet = cond (eqb (get_or w.pins.started b 0) n) (Some b) None; history = g.before ++ has_scanned b n ∷ []; is = scanned; scans = s.scans ++ has_scanned b n ∷ []; grows = grown; only = scans_more s.scans b n s.only; most = omega arith; fewer = (λ l. let p = f (past l) in omega arith); not_yet = omega arith }

    pub searched_found : n ≡ get_or started b 0 → FoundQuiet b w v
    searched_found same =
        let hit : eqb (get_or w.pins.started b 0) n ≡ true = eq-eqb (get_or w.pins.started b 0) n (ap (λ (l : List ℕ). get_or l b 0) rests.started_is ∙ sym same) in
        let m = s.most in let f = s.fewer in let cl = rests.low in
        let c = rests.current_is in let a : w.current ≢ b = (λ e. apart (sym e ∙ c)) in
        let few = most (length s.scans) f m cl a in let long = longer in
        record {
          history = g.before ++ has_scanned b n ∷ [];
          low = low;
          is = scanned ∙ ap (λ (t : Bool). scanned_to (cond t (Some b) None) (g.before ++ has_scanned b n ∷ []) w) hit;
          scans = s.scans ++ has_scanned b n ∷ [];
          grows = grown;
          only = scans_more s.scans b n s.only;
          most = omega arith;
        }
      where
        most : (l : ℕ) → (w.current < b → l + 1 ≤ b) → l ≤ b → w.current < 8 → w.current ≢ b → l + 1 ≤ 7
        most l f m cl a = grind arith

  pub never : 8 ≤ b → ⊥
  never l = let i = rests.idle in let n = s.not_yet in omega arith

module _ (words : List ℕ) (w v : Writing) (k : ℕ) (all : List (List ℕ)) (h : List Deed) (W : ℕ) (long : length words ≡ W) (low : k < W) (g : Written (get_or words k 0) (filled (take k words) all h w) (get_or words k 0) v) where
  inside : k < length words
  inside = omega arith

  place : length (take k words) ≡ k
  place = let l = inside in length-take-le k words (omega arith)

  pub filled_more : v ≡ filled (take (k + 1) words) v.words (g.before ++ has_written k (get_or words k 0) ∷ []) w
  filled_more = g.is ∙ (λ i. filled (sym (take_more words k 0 inside) i) (sym (ap (λ (z : Writing). z.words) g.is) i) (g.before ++ has_written (place i) (get_or words k 0) ∷ []) w)

  pub writes_more : Grows 0 w.history h (writes_of words k) → Grows 0 w.history (g.before ++ has_written k (get_or words k 0) ∷ []) (writes_of words (k + 1))
  writes_more d =
      let next : suc k ≡ k + 1 = omega arith in
      subst (λ (m : ℕ). Grows 0 w.history (g.before ++ has_written k (get_or words k 0) ∷ []) (writes_of words m)) next
      (grows_act 0 w.history h g.before (writes_of words k) (has_written k (get_or words k 0)) refl d g.grows)

-- Words are written to the buffer b.
module _ (bank : TableId) (b : ℕ) (words : List ℕ) (long : length words ≡ bank.slots) (w : Writing) where
  -- before the first
  pub so_far_none : (seat : Token (Unit {0}) Known) → IsWriterSeat seat bank w → w.pins.building ≡ Some b → w.pins.written ≡ [] → Sized bank.slots w.words → WrittenSoFar bank seat b 0 words w
  so_far_none seat d building none sized = record {
    building = building;
    done = 0;
    low = omega arith;
    history = w.history;
    all = w.words;
    sits = subst (IsWriterSeat seat bank) (λ i. filled (none i) w.words w.history w) d;
    grows = grows_none 0 w.history;
    there = (λ j from below. absurd (omega arith));
    sized = sized;
    ahead = (λ j from. refl);
    others = (λ c ne. refl);
  }

  -- the next words, up to the word `to`, stand there already
  pub so_far_to : (seat seat' : Token (Unit {0}) Known) (k to : ℕ) (s : WrittenSoFar bank seat b k words w) → IsWriterSeat seat' bank (filled (take s.done words) s.all s.history w) → k ≤ to
      → ((j : ℕ) → k ≤ j → j < to → get_or (get_or s.all b []) j 0 ≡ get_or words j 0) → WrittenSoFar bank seat' b to words w
  so_far_to seat seat' k to s d le same = let low = s.low in record {
    building = s.building;
    done = s.done;
    low = omega arith;
    history = s.history;
    all = s.all;
    sits = d;
    grows = s.grows;
    there = (λ j from below. dite (dec_le k j) (λ h. same j h below) (λ n. s.there j from (omega arith)));
    sized = s.sized;
    ahead = (λ j from. s.ahead j (omega arith));
    others = s.others;
  }

  -- n words that stand there already are written
  pub again_fills : (n d : ℕ) (all : List (List ℕ)) (h : List Deed) (u : Writing) → w.pins.building ≡ Some b → d + n ≤ bank.slots → HasWords b d (d + n) words all → Grows 0 w.history h (writes_of words d)
      → WrittenAgain n (filled (take d words) all h w) u → (h' : List Deed) × (u ≡ filled (take (d + n) words) all h' w) × Grows 0 w.history h' (writes_of words (d + n))
  again_fills zero d all h u building room there grows e =
      let same : d ≡ d + 0 = omega arith in
      (h, e ∙ ap (λ (m : ℕ). filled (take m words) all h w) same, subst (λ (m : ℕ). Grows 0 w.history h (writes_of words m)) same grows)
  again_fills (suc n) d all h u building room there grows (v, before, last) =
      let r = room in
      let i = again_fills n d all h v building (omega arith) (λ j from below. there j from (omega arith)) grows before in
      let k : ℕ = d + n in
      let next : k + 1 ≡ d + suc n = omega arith in
      let low : k < bank.slots = omega arith in
      let place : length (take k words) ≡ k = length-take-le k words (omega arith) in
      let x : standing (filled (take k words) all i.0 w) ≡ get_or words k 0 = (λ j. word_there (building j) (place j) all) ∙ there k (omega arith) (omega arith) in
      let g' : Written (standing (filled (take k words) all i.0 w)) (filled (take k words) all i.0 w) (standing (filled (take k words) all i.0 w)) u = subst (λ (z : Writing). Written (standing z) z (standing z) u) i.1 last in
      let g : Written (get_or words k 0) (filled (take k words) all i.0 w) (get_or words k 0) u = subst (λ (z : ℕ). Written z (filled (take k words) all i.0 w) z u) x g' in
      let kept : u.words ≡ all = (again_keeps 1 (filled (take k words) all i.0 w) u (filled (take k words) all i.0 w, refl, g')).2 in
      let h' = g.before ++ has_written k (get_or words k 0) ∷ [] in (
        h',
        filled_more words w u k all i.0 bank.slots long low g ∙ (λ j. filled (take (next j) words) (kept j) h' w),
        subst (λ (m : ℕ). Grows 0 w.history h' (writes_of words m)) next (writes_more words w u k all i.0 bank.slots long low g i.2),
      )

  -- so all words below k are written
  abbrev pub kept : (seat seat' : Token (Unit {0}) Known) (k n : ℕ) (s : WrittenSoFar bank seat b k words w) (u : Writing) → k ≤ bank.slots → n ≡ k - length (take s.done words)
      → WrittenAgain n (filled (take s.done words) s.all s.history w) u → IsWriterSeat seat' bank u → WrittenSoFar bank seat' b k words w
  kept seat seat' k n s u room e again d =
      let low = s.low in
      let place : length (take s.done words) ≡ s.done = length-take-le s.done words (omega arith) in
      let all : s.done + n ≡ k = omega arith in
      let i = again_fills n s.done s.all s.history u s.building (omega arith) (λ j from below. s.there j (omega arith) (omega arith)) s.grows again in
      record {
        building = s.building;
        done = k;
        low = omega arith;
        history = i.0;
        all = s.all;
        sits = subst (λ (m : ℕ). IsWriterSeat seat' bank (filled (take m words) s.all i.0 w)) all (subst (IsWriterSeat seat' bank) i.1 d);
        grows = subst (λ (m : ℕ). Grows 0 w.history i.0 (writes_of words m)) all i.2;
        there = s.there;
        sized = s.sized;
        ahead = s.ahead;
        others = s.others;
      }

  -- and then the word k is
  module _ (seat seat' : Token (Unit {0}) Known) (k x : ℕ) (s : WrittenSoFar bank seat b k words w) (v : Writing) (fits : b < 8) (room : k < bank.slots) (done : s.done ≡ k) (is : x ≡ get_or words k 0)
      (put : Written x (filled (take s.done words) s.all s.history w) x v) where
    put_here : Written (get_or words k 0) (filled (take k words) s.all s.history w) (get_or words k 0) v
    put_here = subst (λ (m : ℕ). Written (get_or words k 0) (filled (take m words) s.all s.history w) (get_or words k 0) v) done (subst (λ (z : ℕ). Written z (filled (take s.done words) s.all s.history w) z v) is put)

    abbrev filled_row : List ℕ
    filled_row = set (get_or s.all b []) k (get_or words k 0)

    words_then : v.words ≡ set s.all b filled_row
    words_then =
        let place : length (take k words) ≡ k = length-take-le k words (omega arith) in
        ap (λ (z : Writing). z.words) put_here.is ∙ (λ i. rewritten (s.building i) (place i) (get_or words k 0) s.all)

    row_then : get_or (set s.all b filled_row) b [] ≡ filled_row
    row_then = let n = s.sized.buffers in get_or-set_same s.all b filled_row [] (omega arith)

    row_long : length (get_or s.all b []) ≡ bank.slots
    row_long = s.sized.wide b fits

    wide_then : (c : ℕ) → c < 8 → length (get_or (set s.all b filled_row) c []) ≡ bank.slots
    wide_then c low = dite (ℕ_discrete c b)
        (λ e. ap (λ (d : ℕ). length (get_or (set s.all b filled_row) d [])) e ∙ (ap length row_then ∙ (length-set (get_or s.all b []) k (get_or words k 0) ∙ row_long)))
        (λ ne. ap length (get_or-set_other s.all b c filled_row [] ne) ∙ s.sized.wide c low)

    there_then : HasWords b 0 (k + 1) words (set s.all b filled_row)
    there_then j from below = let n = row_long in ap (λ (l : List ℕ). get_or l j 0) row_then ∙ dite (ℕ_discrete j k)
        (λ e. subst (λ (m : ℕ). get_or filled_row m 0 ≡ get_or words m 0) (sym e) (get_or-set_same (get_or s.all b []) k (get_or words k 0) 0 (omega arith)))
        (λ ne. get_or-set_other (get_or s.all b []) k j (get_or words k 0) 0 ne ∙ s.there j from (omega arith))

    pub so_far_put : IsWriterSeat seat' bank v → (s' : WrittenSoFar bank seat' b (k + 1) words w) × (s'.done ≡ k + 1)
    so_far_put d =
        let g = put_here in
        let h : List Deed = g.before ++ has_written k (get_or words k 0) ∷ [] in
        let grown : Grows 0 w.history s.history (writes_of words k) = subst (λ (m : ℕ). Grows 0 w.history s.history (writes_of words m)) done s.grows in (
          record {
            building = s.building;
            done = k + 1;
            low = omega arith;
            history = h;
            all = set s.all b filled_row;
            sits = subst (λ (l : List (List ℕ)). IsWriterSeat seat' bank (filled (take (k + 1) words) l h w)) words_then (subst (IsWriterSeat seat' bank) (filled_more words w v k s.all s.history bank.slots long room g) d);
            grows = writes_more words w v k s.all s.history bank.slots long room g grown;
            there = there_then;
            sized = record { buffers = length-set s.all b filled_row ∙ s.sized.buffers; wide = wide_then };
            ahead = (λ j from. ap (λ (l : List ℕ). get_or l j 0) row_then ∙ (get_or-set_other (get_or s.all b []) k j (get_or words k 0) 0 (λ e. let z : k + 1 ≤ j = from in absurd (omega arith)) ∙ s.ahead j (omega arith)));
            others = (λ c ne. get_or-set_other s.all b c filled_row [] ne ∙ s.others c ne);
          },
          refl,
        )

module _ (w : Writing) (current : ℕ) (started : List ℕ) (rests : Rests current started w) (b : ℕ) (words : List ℕ) (u1 u2 u4 : Writing) (all3 : List (List ℕ)) (h3 : List Deed) (W n pins : ℕ)
    (f : FoundQuiet b w u1) (r : WasReset b u1 0 u2) (g3 : Grows 0 u2.history h3 (writes_of words (length words))) (p : SeatPublished W b (filled words all3 h3 u2) n u4) (told : pins ≡ p.count) where
  whole : u4 ≡ writing_after_publish b p.count p.idle p.before (filled words all3 h3 (writing_after_reset b r.before (scanned_to (Some b) f.history w)))
  whole = p.is ∙ ap (λ (z : Writing). writing_after_publish b p.count p.idle p.before (filled words all3 h3 z)) (r.is ∙ ap (writing_after_reset b r.before) f.is)

  same_current : (filled words all3 h3 u2).current ≡ w.current
  same_current = ap (λ (z : Writing). z.current) (r.is ∙ ap (writing_after_reset b r.before) f.is)

  reset_then : Grows 0 w.history (r.before ++ has_reset b ∷ []) (f.scans ++ has_reset b ∷ [])
  reset_then = grows_act 0 w.history f.history r.before f.scans (has_reset b) refl f.grows (subst (λ (z : Writing). Grows 0 z.history r.before []) f.is r.grows)

  all_grown : Grows 0 w.history (p.before ++ has_published ∷ []) (f.scans ++ has_reset b ∷ (writes_of words (length words) ++ has_published ∷ []))
  all_grown =
      let writes : List Deed = writes_of words (length words) in
      let reset : List Deed = has_reset b ∷ [] in
      let done : List Deed = has_published ∷ [] in
      let written = grows_again 0 w.history (r.before ++ has_reset b ∷ []) h3 (f.scans ++ reset) writes reset_then (subst (λ (z : Writing). Grows 0 z.history h3 writes) r.is g3) in
      subst (Grows 0 w.history (p.before ++ has_published ∷ [])) (append_assoc (f.scans ++ reset) writes done ∙ append_assoc f.scans reset (writes ++ done))
      (grows_act 0 w.history h3 p.before ((f.scans ++ reset) ++ writes) has_published refl written p.grows)

  pub rests_again : Rests b (set (set started b 0) current pins) u4
  rests_again = record {
    current_is = ap (λ (z : Writing). z.current) whole;
    started_is = ap (λ (z : Writing). z.pins.started) whole ∙ (ap (λ (l : List ℕ). set (set l b 0) w.current p.count) rests.started_is ∙ (ap (λ (i : ℕ). set (set started b 0) i p.count) rests.current_is ∙ ap (set (set started b 0) current) (sym told)));
    low = subst (λ (i : ℕ). i < 8) (sym (ap (λ (z : Writing). z.current) whole)) f.low;
    building = ap (λ (z : Writing). z.pins.building) whole;
    idle = subst (λ (i : ℕ). i < 8) (sym (ap (λ (z : Writing). z.idle) whole)) p.low;
    apart = (λ e. p.apart (sym (ap (λ (z : Writing). z.idle) whole) ∙ (e ∙ ap (λ (z : Writing). z.current) whole)));
  }

  pub published_now : Publishes words W w u4
  published_now = record {
    list = ap (λ (z : Writing). z.pins.publications) whole;
    scans = f.scans;
    buffer = b;
    only = f.only;
    most = f.most;
    grows = subst (λ (l : List Deed). Grows 0 w.history l (f.scans ++ has_reset b ∷ (writes_of words (length words) ++ has_published ∷ []))) (sym (ap (λ (z : Writing). z.history) whole)) all_grown;
    last = (p.before, ap (λ (z : Writing). z.history) whole);
    up_to_date = p.up_to_date;
  }
