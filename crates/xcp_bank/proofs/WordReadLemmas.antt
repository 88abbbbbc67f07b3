-- Reads of words, one after another, and the bytes that they put.
use Rattle.std.proofs.Common.{◌≡◌, ◌≢◌, ℕ, suc, ◌+◌, ◌-◌, ◌*◌, ◌/◌, ◌%◌, ◌<◌, ◌≤◌, inl, inr, List, [], length, take, drop, get_or, sym, refl, ap, ◌∙◌, subst, arith, Some}
use Rattle.std.specs.Int.{w64, to_le_bytes}
use mathlib.Core.Logic.{dite}
use native.Mathlib.Decide.{dec_le}
use Rattle.atomic_table.specs.Seated.{TableId}
use Rattle.atomic_table.specs.declared.shared.Seat.{Seat as Token}
use Rattle.pin_core.specs.State.{Reader}
use Rattle.xcp_bank.specs.SeatKnowledge.{Reading, Known}
use Rattle.xcp_bank.specs.Images.{image_in_words}
use Rattle.xcp_bank.specs.private.SeatSteps.{IsReaderSeat, HasRead, ReaderMoves, WordReadAt, ReadsOn, bytes_of_table}
use Rattle.std.proofs.lemmas.List.{length-take-le, length-drop, get_or-take, get_or-drop}
use borrow.Rule.Slice.PartMut.{put_mid}
use Rattle.xcp_bank.proofs.ImageLemmas.{image_byte}
use Rattle.xcp_bank.proofs.WrittenPartLemmas.{length_put, before_part, in_part, behind_part}
use Rattle.xcp_bank.proofs.ReaderSeatLemmas.{read_none, read_more}

module _ (bank : TableId) (buffer at : ℕ) where
  -- no word
  pub reads_none : (k : ℕ) (s : Token (Unit {0}) Known) (a : List ℕ) → ReadsOn bank buffer at k 0 s s a a
  reads_none k s a = record {
    size = refl;
    elsewhere = (λ j o. refl);
    there = (λ r y p sits held j l from to. absurd (omega arith));
    reads = (λ r x y p from m sits held h e. (let same : m ≡ m + 0 = omega arith in (y, sits, subst (λ (i : ℕ). HasRead from i p bank.slots r x y) same h)));
  }

  -- one word
  pub reads_one : (k word : ℕ) (s t : Token (Unit {0}) Known) (a b : List ℕ) → ReaderMoves (WordReadAt buffer k word) s t bank → length b ≡ length a
      → ((j : ℕ) → j < length a → (at + j) / 8 ≡ k → get_or b j 0 ≡ get_or (to_le_bytes w64 word) ((at + j) % 8) 0)
      → ((j : ℕ) → (at + j) / 8 ≢ k → get_or b j 0 ≡ get_or a j 0) → at + length a ≤ bytes_of_table bank → ReadsOn bank buffer at k 1 s t a b
  reads_one k word s t a b moves size here other inside = record {
    size = size;
    elsewhere = (λ j o. other j (λ e. elim o [ inl l ↦ absurd (omega arith) | inr l ↦ absurd (omega arith) ]));
    there = (λ r y p sits held j l from to.
        (let w = (moves r y sits).2 p held in
        let words : List ℕ = get_or y.list p [] in
        let e : (at + j) / 8 ≡ k = omega arith in
        here j l e ∙ (ap (λ (v : ℕ). get_or (to_le_bytes w64 v) ((at + j) % 8) 0) (w.value ∙ ap (λ (m : ℕ). get_or words m 0) (sym e)) ∙ sym (image_byte bank.slots words (at + j) w.numbered.size (omega arith)))));
    reads = (λ r x y p from m sits held h e. (let w = moves r y sits in (w.0, w.1, read_more bank.slots r x y w.0 from m (m + 1) p k word h (w.2 p held) e (omega arith))));
  }

  -- the seat still holds what it held
  pub reads_hold : (k n : ℕ) (s t : Token (Unit {0}) Known) (a b : List ℕ) → ReadsOn bank buffer at k n s t a b
      → (r : ℕ) × (x : Reading) × IsReaderSeat s bank r x × (p : ℕ) × (x.pins.held ≡ Some (buffer, p)) → (r : ℕ) × (x : Reading) × IsReaderSeat t bank r x × (p : ℕ) × (x.pins.held ≡ Some (buffer, p))
  reads_hold k n s t a b f (r, x, sits, p, held) =
      let i = f.reads r x x p k 0 sits held (read_none bank.slots r x k 0 p refl) (omega arith) in
      (r, i.0, i.1, p, ap (λ (z : Reader). z.held) i.2.pins ∙ held)

  -- words behind words
  pub reads_on : (k n m : ℕ) (s t u : Token (Unit {0}) Known) (a b c : List ℕ) → ReadsOn bank buffer at k n s t a b → ReadsOn bank buffer at (k + n) m t u b c → ReadsOn bank buffer at k (n + m) s u a c
  reads_on k n m s t u a b c f g =
      let moved : (r : ℕ) (y : Reading) (p : ℕ) → IsReaderSeat s bank r y → y.pins.held ≡ Some (buffer, p) → (z : Reading) × IsReaderSeat t bank r z × HasRead k n p bank.slots r y z
      = λ r y p sits held. (let i = f.reads r y y p k 0 sits held (read_none bank.slots r y k 0 p refl) (omega arith) in let same : 0 + n ≡ n = omega arith in (i.0, i.1, subst (λ (j : ℕ). HasRead k j p bank.slots r y i.0) same i.2)) in
      record {
        size = g.size ∙ f.size;
        elsewhere = (λ j o. elim o [
          | inl l ↦ (g.elsewhere j (inl (omega arith)) ∙ f.elsewhere j (inl l))
          | inr l ↦ (g.elsewhere j (inr (omega arith)) ∙ f.elsewhere j (inr (omega arith)))
        ]);
        there = (λ r y p sits held j l from to. dite (dec_le (suc ((at + j) / 8)) (k + n))
            (λ low. g.elsewhere j (inl low) ∙ f.there r y p sits held j l from low)
            (λ high.
            (let i = moved r y p sits held in
            let size = f.size in
            g.there r i.0 p i.1 (ap (λ (z : Reader). z.held) i.2.pins ∙ held) j (omega arith) (omega arith) (omega arith)
            ∙ ap (λ (list : List (List ℕ)). get_or (image_in_words (get_or list p [])) (at + j) 0) i.2.list)));
        reads = (λ r x y p from l sits held h e.
            (let i = f.reads r x y p from l sits held h e in
            let still = ap (λ (z : Reader). z.held) (i.2.pins ∙ sym h.pins) ∙ held in
            let q = g.reads r x i.0 p from (l + n) i.1 still i.2 (omega arith) in
            let same : l + n + m ≡ l + (n + m) = omega arith in
            (q.0, q.1, subst (λ (j : ℕ). HasRead from j p bank.slots r x q.0) same q.2)));
      }

  -- words into a part of what is read, which begins at the first of them
  pub reads_within : (k n place size : ℕ) (s t : Token (Unit {0}) Known) (a b : List ℕ) → at + place ≡ 8 * k → 8 * n ≤ size → place + size ≤ length a
      → ReadsOn bank buffer (8 * k) k n s t (take size (drop place a)) b → ReadsOn bank buffer at k n s t a (put_mid place size a b)
  reads_within k n place size s t a b begins room inside g =
      let d = length-drop place a in
      let old : length (take size (drop place a)) ≡ size = length-take-le size (drop place a) (omega arith) in
      let new : length b ≡ size = g.size ∙ old in
      let front : place ≤ length a = omega arith in
      let kept : (i : ℕ) → i < size → get_or (take size (drop place a)) i 0 ≡ get_or a (place + i) 0 = λ i l. get_or-take size (drop place a) i 0 l ∙ get_or-drop place a i 0 in
      record {
        size = length_put place size a b front new inside;
        elsewhere = (λ j o. dite (dec_le (suc j) place)
            (λ before. before_part place size a b front new j before)
            (λ past. dite (dec_le (suc j) (place + size))
            (λ low. (let i : j ≡ place + (j - place) = omega arith in
            in_part place size a b front new j (omega arith) low
            ∙ (g.elsewhere (j - place) (elim o [ inl l ↦ inl (omega arith) | inr l ↦ inr (omega arith) ])
            ∙ (kept (j - place) (omega arith) ∙ ap (λ (m : ℕ). get_or a m 0) (sym i)))))
            (λ high. behind_part place size a b front new j (omega arith))));
        there = (λ r y p sits held j l from to.
            (let same : 8 * k + (j - place) ≡ at + j = omega arith in
            in_part place size a b front new j (omega arith) (omega arith)
            ∙ (g.there r y p sits held (j - place) (omega arith) (omega arith) (omega arith) ∙ ap (λ (m : ℕ). get_or (image_in_words (get_or y.list p [])) m 0) same)));
        reads = g.reads;
      }

  -- the same behind other words
  pub reads_behind : (k n m place size : ℕ) (s t u : Token (Unit {0}) Known) (a b d : List ℕ) → at + place ≡ 8 * (k + n) → 8 * m ≤ size → place + size ≤ length a
      → ReadsOn bank buffer at k n s t a b → ReadsOn bank buffer (8 * (k + n)) (k + n) m t u (take size (drop place b)) d → ReadsOn bank buffer at k (n + m) s u a (put_mid place size b d)
  reads_behind k n m place size s t u a b d begins room inside f g =
      let same = f.size in reads_on k n m s t u a b (put_mid place size b d) f (reads_within (k + n) m place size t u b d begins room (omega arith) g)
