-- What Scans of all buffers but the current one come to.
use Rattle.std.proofs.Common.{◌≡◌, ◌≢◌, ℕ, suc, ◌+◌, ◌<◌, ◌≤◌, ◌%◌, Bool, cond, eqb, eq-eqb, ne_eqb, List, [], ◌∷◌, ◌++◌, length, map, sum_by, get_or, sym, refl, ap, ◌∙◌, subst, arith, Some, None}
use Rattle.std.proofs.lemmas.List.{length_push, map-append}
use Rattle.std.proofs.lemmas.List.Sums.{sum_by_push}
use Rattle.atomic_table.specs.Seated.{TableId}
use Rattle.xcp_bank.specs.PinHistory.{Deed, Grows, has_scanned}
use Rattle.xcp_bank.specs.HeldBufferCount.{others, scanned_buffer, scan_of, unquiet}
use Rattle.xcp_bank.specs.SeatKnowledge.{Writing}
use Rattle.xcp_bank.specs.private.WriterSteps.{Scanned, writing_after_scan}
use Rattle.xcp_bank.specs.private.SeatSteps.{HeldCounted, Rests, scanned_to}
use Rattle.xcp_bank.specs.BankEnds.{writer_end, HeldDoes}
use Rattle.xcp_bank.proofs.HistoryLemmas.{grows_none, grows_act}

others_skip : (current b : ℕ) → b ≡ current → others current (b + 1) ≡ others current b
others_skip current b e =
    let next : b + 1 ≡ suc b = omega arith in
    ap (others current) next ∙ ap (λ (t : Bool). cond t (others current b) (others current b ++ b ∷ [])) (eq-eqb b current e)

others_more : (current b : ℕ) → b ≢ current → others current (b + 1) ≡ others current b ++ b ∷ []
others_more current b ne =
    let next : b + 1 ≡ suc b = omega arith in
    ap (others current) next ∙ ap (λ (t : Bool). cond t (others current b) (others current b ++ b ∷ [])) (ne_eqb b current ne)

-- before the first Scan no buffer has been counted, none is found held, and the writer is as it was
pub counted_none : (W : ℕ) (w : Writing) → HeldCounted 0 0 W w w
counted_none W w = record { quiet = w.pins.quiet; history = w.history; is = refl; found = []; each = refl; grows = grows_none 0 w.history; held_is = refl; long = omega arith; ahead = (λ l. refl); behind = (λ l. absurd (omega arith)); most = omega arith; fewer = (λ l. absurd (omega arith)); up_to_date = (λ l. absurd (omega arith)) }

module _ (W : ℕ) (w : Writing) (current : ℕ) (started : List ℕ) (rests : Rests current started w) (b held : ℕ) (u : Writing) (s : HeldCounted b held W w u) where
  pub counted_few : b < 8 → held < 8
  counted_few low = let l = s.long in let m = s.most in omega arith

  pub counted_skip : b ≡ current → HeldCounted (b + 1) held W w u
  counted_skip is =
      let here : b ≡ w.current = is ∙ sym rests.current_is in
      let ne : w.idle ≢ b = λ e. rests.apart (e ∙ here) in
      let long = s.long in let at : length s.found ≡ b = s.ahead (omega arith) in
      record {
        quiet = s.quiet;
        history = s.history;
        is = s.is;
        found = s.found;
        each = s.each ∙ sym (others_skip w.current b here);
        grows = s.grows;
        held_is = s.held_is;
        long = omega arith;
        ahead = (λ l. absurd (omega arith));
        behind = (λ l. omega arith);
        most = s.most;
        fewer = (λ l. s.fewer (omega arith));
        up_to_date = s.up_to_date;
      }

  module _ (apart : b ≢ current) (n : ℕ) (v : Writing) (g : Scanned W b u n v) where
    ne : b ≢ w.current
    ne e = apart (e ∙ rests.current_is)

    abbrev found : List (ℕ × ℕ)
    found = s.found ++ (b, n) ∷ []

    scanned : v ≡ scanned_to (cond (eqb (get_or w.pins.started b 0) n) (Some b) None) (g.before ++ has_scanned b n ∷ []) w
    scanned = g.is ∙ ap (writing_after_scan b n g.before) s.is

    grown : Grows 0 w.history (g.before ++ has_scanned b n ∷ []) (map scan_of found)
    grown = subst (Grows 0 w.history (g.before ++ has_scanned b n ∷ [])) (sym (map-append scan_of s.found ((b, n) ∷ [])))
        (grows_act 0 w.history s.history g.before (map scan_of s.found) (has_scanned b n) refl s.grows (subst (λ (z : Writing). Grows 0 z.history g.before []) s.is g.grows))

    each : map scanned_buffer found ≡ others w.current (b + 1)
    each = map-append scanned_buffer s.found ((b, n) ∷ []) ∙ (ap (λ (l : List ℕ). l ++ b ∷ []) s.each ∙ sym (others_more w.current b ne))

    longer : length found ≡ length s.found + 1
    longer = length_push s.found (b, n)

    summed : sum_by (unquiet w.pins.started) found ≡ sum_by (unquiet w.pins.started) s.found + unquiet w.pins.started (b, n)
    summed = sum_by_push (unquiet w.pins.started) s.found (b, n)

    started_is : get_or w.pins.started b 0 ≡ get_or started b 0
    started_is = ap (λ (l : List ℕ). get_or l b 0) rests.started_is

    -- how many there are then, of which this one adds `more`
    counted_more : (more : ℕ) → unquiet w.pins.started (b, n) ≡ more → more ≤ 1 → (more ≡ 1 → w.idle ≢ b) → HeldCounted (b + 1) (held + more) W w v
    counted_more more is few other =
        let long = s.long in let long' = longer in let most = s.most in let apart' = ne in
        record {
          quiet = cond (eqb (get_or w.pins.started b 0) n) (Some b) None;
          history = g.before ++ has_scanned b n ∷ [];
          is = scanned;
          found = found;
          each = each;
          grows = grown;
          held_is = ap (λ (m : ℕ). m + more) s.held_is ∙ (ap (λ (m : ℕ). sum_by (unquiet w.pins.started) s.found + m) (sym is) ∙ sym summed);
          long = omega arith;
          ahead = (λ l. let a = s.ahead (omega arith) in omega arith);
          behind = (λ l. let a = s.behind (omega arith) in omega arith);
          most = omega arith;
          fewer = (λ l. fewer_then (length s.found) (length found) more l long' most few other s.fewer);
          up_to_date = (λ l. g.up_to_date);
        }
      where
        fewer_then : (m k e : ℕ) → w.idle < b + 1 → k ≡ m + 1 → held ≤ m → e ≤ 1 → (e ≡ 1 → w.idle ≢ b) → (w.idle < b → held + 1 ≤ m) → (held + e) + 1 ≤ k
        fewer_then m k e l is le few other f = grind arith

    pub counted_quiet : n ≡ get_or started b 0 → HeldCounted (b + 1) held W w v
    counted_quiet same =
        let none : unquiet w.pins.started (b, n) ≡ 0 = ap (λ (t : Bool). cond t 0 1) (eq-eqb (get_or w.pins.started b 0) n (started_is ∙ sym same)) in
        let is : held + 0 ≡ held = omega arith in
        subst (λ (m : ℕ). HeldCounted (b + 1) m W w v) is (counted_more 0 none (omega arith) (λ e. absurd (omega arith)))

    pub counted_held : n ≢ get_or started b 0 → HeldCounted (b + 1) (held + 1) W w v
    counted_held other =
        let one : unquiet w.pins.started (b, n) ≡ 1 = ap (λ (t : Bool). cond t 0 1) (ne_eqb (get_or w.pins.started b 0) n (λ e. other (sym e ∙ started_is))) in
        let found_is : get_or u.pins.started b 0 ≡ get_or w.pins.started b 0 = ap (λ (z : Writing). get_or z.pins.started b 0) s.is in
        let idle_is : u.idle ≡ w.idle = ap (λ (z : Writing). z.idle) s.is in
        counted_more 1 one (omega arith) (λ e i. other (sym (g.found (sym i ∙ sym idle_is)) ∙ (found_is ∙ started_is)))

-- The seven are counted.
module _ (bank : TableId) (w : Writing) (current : ℕ) (started : List ℕ) (rests : Rests current started w) (held : ℕ) (u : Writing) (k : HeldCounted 8 held bank.slots w u) where
  pub rests_still : Rests current started u
  rests_still = subst (Rests current started) (sym k.is) record { current_is = rests.current_is; started_is = rests.started_is; low = rests.low; building = rests.building; idle = rests.idle; apart = rests.apart }

  pub counted_still : (n : ℕ) → n ≡ length w.pins.publications % 18446744073709551616 → n ≡ length u.pins.publications % 18446744073709551616
  counted_still n e = e ∙ ap (λ (z : Writing). length z.pins.publications % 18446744073709551616) (sym k.is)

  pub held_few : held ≤ 6
  held_few = let a = k.behind rests.low in let f = k.fewer rests.idle in omega arith

  pub held_end : HeldDoes held (writer_end bank w) (writer_end bank u)
  held_end =
      let seven : length k.found ≡ 7 = (let a = k.behind rests.low in omega arith) in
      let up = k.up_to_date (omega arith) in
      let history : k.history ≡ u.history = sym (ap (λ (z : Writing). z.history) k.is) in
      record {
        found = k.found;
        each = k.each;
        seven = seven;
        did = subst (λ (h : List Deed). Grows 0 w.history h (map scan_of k.found)) history k.grows;
        same = ap (writer_end bank) k.is ∙ ap (λ (h : List Deed). record (writer_end bank w) { history = h }) history;
        state = up.state;
        ran = up.ran;
        current = up.index ∙ ap (λ (z : Writing). z.current) k.is;
        answer_is = k.held_is ∙ ap (λ (l : List ℕ). sum_by (unquiet l) k.found) (sym (ap (λ z. z.started) up.pins ∙ ap (λ (z : Writing). z.pins.started) k.is));
      }
