-- The table at the start meets the rule.
use Rattle.std.proofs.Common.{◌≡◌, ℕ, zero, suc, ◌+◌, ◌-◌, ◌*◌, ◌<◌, ◌≤◌, List, [], ◌∷◌, length, get_or, sym, refl, ap, ◌∙◌, subst, arith, suc-mul, Some, replicate}
use Rattle.std.proofs.lemmas.Option.{same_Some}
use mathlib.Core.Option.{some, some-injective, some-ne-none}
use lib.ListN.{get_elem?}
use Rattle.atomic_table.specs.Table.{opening as table_opening}
use Rattle.pin_core.specs.State.{PinState, newcomer, publication_at, opening}
use Rattle.pin_core.specs.StateInvariant.{Lawful}
use Rattle.pin_core.proofs.OpeningLaws.{opening_lawful, alike, within, none_there}
use Rattle.xcp_bank.specs.PinHistory.{Grows}
use Rattle.xcp_bank.proofs.HistoryLemmas.{grows_none}
use Rattle.xcp_bank.specs.SeatKnowledge.{Writing, Known, beginning}
use Rattle.xcp_bank.specs.private.Everybody.{waiting, everybody}
use Rattle.xcp_bank.specs.TableRule.{RecordsAll, IsNumbered, StandsForAll, Leads, Banked}

module _ (W : ℕ) (image ws : List ℕ) (wide : length image ≡ W) (more : 0 < W) (few : W ≤ 131073) (last : get_or image (W - 1) 0 ≡ 0) (size : length ws ≡ 9 + 8 * W)
    (front : (i : ℕ) → i < 9 → get_or ws i 0 ≡ 0) (words : (k : ℕ) → k < W → get_or ws (9 + k) 0 ≡ get_or image k 0) (rest : (i : ℕ) → 9 + W ≤ i → get_or ws i 0 ≡ 0) where
  abbrev s : PinState
  s = opening image

  blank : (c k : ℕ) → suc c < 8 → get_or ws (9 + (suc c * W + k)) 0 ≡ get_or (get_or s.words (suc c) []) k 0
  blank c k low =
      let far : W ≤ suc c * W = (let z : ℕ = c * W in let e : suc c * W ≡ z + W = suc-mul c W in omega arith) in
      let row : get_or (replicate 7 (replicate (length image) 0)) c [] ≡ replicate (length image) 0 = within 7 (replicate (length image) 0) [] c (omega arith) in
      rest (9 + (suc c * W + k)) (omega arith) ∙ sym (ap (λ (l : List ℕ). get_or l k 0) row ∙ alike (length image) 0 k)

  buffers : (c k : ℕ) → c < 8 → k < W → get_or ws (9 + (c * W + k)) 0 ≡ get_or (get_or s.words c []) k 0
  buffers zero k low inner = ap (λ (z : ℕ). get_or ws (9 + z) 0) (let e : 0 * W + k ≡ k = omega arith in e) ∙ words k inner
  buffers (suc c) k low inner = blank c k low

  wait : (n : ℕ) → n ≤ 6 → StandsForAll s (λ _. 0) 0 (waiting n image)
  wait zero le = tt
  wait (suc n) le = (record { inside = omega arith; mine = refl; pins = alike 6 newcomer n; list = refl; past = tt }, wait n (omega arith))

  pub opening_banked : (slots : List (Unit {0})) → Banked W (table_opening ws slots (everybody 6 image))
  opening_banked slots = record {
    core = s;
    own = λ _. 0;
    writer_seat = 0;
    lawful = subst (λ (n : ℕ). Lawful n s) wide (opening_lawful image (omega arith) (omega arith));
    shows = record {
      size = size;
      head = front 0 (omega arith);
      left = λ c low. front (1 + c) (omega arith) ∙ sym (alike 8 0 c);
      image = buffers;
    };
    numbered = first_numbered;
    first = image;
    wide = wide;
    history = [];
    run = (refl, refl);
    recorded = λ id v e. records id v e;
    noted = notes;
    readers = all;
    writer = led;
  }
    where
      first_numbered : (p : ℕ) → p < 1 → IsNumbered W p (publication_at s p)
      first_numbered zero l = record { size = wide; number = last }
      first_numbered (suc p) l = absurd (omega arith)

      none_yet : (n : ℕ) → RecordsAll [] (waiting n image)
      none_yet zero = tt
      none_yet (suc n) = (record { grows = grows_none (suc n) []; heard = ([], refl) }, none_yet n)

      records : (id : ℕ) (v : Known) → get_elem? (everybody 6 image ∷ []) id ≡ some v → RecordsAll [] v.readers
      records zero v e = subst (λ (u : Known). RecordsAll [] u.readers) (some-injective (everybody 6 image) v e) (none_yet 6)
      records (suc id) v e = absurd (some-ne-none v (sym e))

      notes : (id : ℕ) (v : Known) (w : Writing) → get_elem? (everybody 6 image ∷ []) id ≡ some v → v.writer ≡ Some w → Grows 0 w.history [] []
      notes zero v w e is = subst (λ (z : Writing). Grows 0 z.history [] []) (same_Some (beginning image) w (ap (λ (u : Known). u.writer) (some-injective (everybody 6 image) v e) ∙ is)) (grows_none 0 [])
      notes (suc id) v w e is = absurd (some-ne-none v (sym e))

      all : (id : ℕ) (v : Known) → get_elem? (everybody 6 image ∷ []) id ≡ some v → StandsForAll s (λ _. 0) id v.readers
      all zero v e = subst (λ (u : Known). StandsForAll s (λ _. 0) 0 u.readers) (some-injective (everybody 6 image) v e) (wait 6 (omega arith))
      all (suc id) v e = absurd (some-ne-none v (sym e))

      led : (id : ℕ) (v : Known) (w : Writing) → get_elem? (everybody 6 image ∷ []) id ≡ some v → v.writer ≡ Some w → (0 ≡ id) × Leads s w
      led zero v w e is = (
        refl,
        subst (Leads s) (same_Some (beginning image) w (ap (λ (u : Known). u.writer) (some-injective (everybody 6 image) v e) ∙ is)) record {
          pins = refl;
          current = refl;
          words = refl;
          idle = omega arith;
          apart = (λ h. omega arith);
          unheld = none_there 6 1;
        },
      )
      led (suc id) v w e is = absurd (some-ne-none v (sym e))
