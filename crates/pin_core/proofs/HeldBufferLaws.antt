-- What a reader holds: nobody else touches it, and it reads one publication.
use Rattle.std.proofs.Common.{◌≡◌, ◌≢◌, ℕ, zero, suc, ◌+◌, ◌-◌, ◌<◌, ◌≤◌, Bool, List, [], ◌∷◌, length, set, get_or, sym, refl, ap, ◌∙◌, subst, arith, get_or-set_other, get_or-set_same, Some, slice_get}
use Rattle.std.proofs.lemmas.Option.{none-some, same_Some}
use Rattle.std.proofs.lemmas.List.Sums.{sum_by-set}
use Rattle.pin_core.specs.declared.events.Event.{Event}
use Rattle.pin_core.specs.declared.events.Event.TheVariants.{Look, Unpin, Pin, Read, Scan, Reset, Write, Publish}
use Rattle.pin_core.specs.declared.events.Seen.{Seen}
use Rattle.pin_core.specs.declared.events.Seen.TheVariants.{Word}
use Rattle.pin_core.specs.State.{Reader, PinState, newcomer, reader, words_of_buffer, published, publication_at}
use Rattle.pin_core.specs.Effects.{looking, pinning, leaving}
use Rattle.pin_core.specs.Steps.{Steps, Runs}
use Rattle.pin_core.specs.StateInvariant.{at_buffer, holders, Lawful}
use Rattle.pin_core.specs.Laws.{touched, KeepsHold, ReadsOf}
use Rattle.pin_core.proofs.ListLemmas.{at_each}
use Rattle.pin_core.proofs.HolderCountLemmas.{at_other}
use Rattle.pin_core.proofs.StepLaws.{step_keeps, step_adds, adds_keeps}

module _ (W : ℕ) (s t : PinState) (a : Seen) (r b p : ℕ) (law : Lawful W s) (held : (reader s r).held ≡ Some (b, p)) where
  -- no event touches the buffer
  pub left_alone : (e : Event) → Steps W s e a t → (touched s e ≢ Some b) × (words_of_buffer t b ≡ words_of_buffer s b)
  left_alone (Look q) h = ((λ e. none-some b e), ap (λ (v : PinState). words_of_buffer v b) h.2)
  left_alone (Unpin q last) h = ((λ e. none-some b e), ap (λ (v : PinState). words_of_buffer v b) h.4)
  left_alone (Pin q) h = ((λ e. none-some b e), ap (λ (v : PinState). words_of_buffer v b) h.2)
  left_alone (Read q k) h = ((λ e. none-some b e), ap (λ (v : PinState). words_of_buffer v b) h.4)
  left_alone (Scan c) h = ((λ e. none-some b e), ap (λ (v : PinState). words_of_buffer v b) h.2)
  left_alone (Reset c) h = ((λ e. (law.keeps r b p held).unquiet (h.0.1 ∙ e)), ap (λ (v : PinState). words_of_buffer v b) h.2)
  left_alone (Write k x) h =
      let unbuilt = (law.keeps r b p held).unbuilt in
      (unbuilt, ap (λ (v : PinState). words_of_buffer v b) h.3 ∙ get_or-set_other s.words h.0 b (set (words_of_buffer s h.0) k x) [] (λ e. unbuilt (h.1.0 ∙ ap (λ (c : ℕ). Some c) (sym e))))
  left_alone Publish h = ((law.keeps r b p held).unbuilt, ap (λ (v : PinState). words_of_buffer v b) h.3)

  -- what another reader's event, or one that leaves the hold, does to the list of readers
  others_hold : (q : ℕ) (x : Reader) → q < length s.readers → (q ≡ r → x.held ≡ Some (b, p)) → (get_or (set s.readers q x) r newcomer).held ≡ Some (b, p)
  others_hold q x inside mine = at_each (λ j y. j ≡ r → y.held ≡ Some (b, p)) s.readers q x newcomer inside mine (λ j ne e. subst (λ (i : ℕ). (reader s i).held ≡ Some (b, p)) (sym e) held) r refl

  -- as long as it doesn't unpin, it holds the same
  pub stays_held : (e : Event) → ((last : Bool) → e ≢ Unpin r last) → Steps W s e a t → (reader t r).held ≡ Some (b, p)
  stays_held (Look q) none h = subst (λ (v : PinState). (reader v r).held ≡ Some (b, p)) (sym h.2)
      (let n = law.sizes.seats in let c = h.0.0 in others_hold q (looking s.index (published s) (reader s q)) (omega arith) (λ e. subst (λ (i : ℕ). (reader s i).held ≡ Some (b, p)) (sym e) held))
  stays_held (Unpin q last) none h = subst (λ (v : PinState). (reader v r).held ≡ Some (b, p)) (sym h.4)
      (let n = law.sizes.seats in let c = h.2.0 in others_hold q (leaving last (reader s q)) (omega arith) (λ e. absurd (none last (ap (λ (i : ℕ). Unpin i last) e))))
  stays_held (Pin q) none h = subst (λ (v : PinState). (reader v r).held ≡ Some (b, p)) (sym h.2)
      (let n = law.sizes.seats in let c = h.0.0 in others_hold q (pinning s.index (published s) (reader s q)) (omega arith)
      (λ e. absurd (none-some (b, p) (sym h.0.2 ∙ subst (λ (i : ℕ). (reader s i).held ≡ Some (b, p)) (sym e) held))))
  stays_held (Read q k) none h = ap (λ (v : PinState). (reader v r).held) h.4 ∙ held
  stays_held (Scan c) none h = ap (λ (v : PinState). (reader v r).held) h.2 ∙ held
  stays_held (Reset c) none h = ap (λ (v : PinState). (reader v r).held) h.2 ∙ held
  stays_held (Write k x) none h = ap (λ (v : PinState). (reader v r).held) h.3 ∙ held
  stays_held Publish none h = ap (λ (v : PinState). (reader v r).held) h.3 ∙ held

-- a Read answers a word of the publication that is held
read_word : (W : ℕ) (s t : PinState) (a : Seen) (r b p k : ℕ) → Lawful W s → (reader s r).held ≡ Some (b, p) → Steps W s (Read r k) a t
    → (k < W) × (a ≡ Word (get_or (publication_at s p) k 0))
read_word W s t a r b p k law held h =
    let same : (h.0, h.1) ≡ (b, p) = same_Some (h.0, h.1) (b, p) (sym h.2.1 ∙ held) in
    (h.2.2, h.3 ∙ ap (λ (l : List ℕ). Word (get_or l k 0)) (ap (λ (z : ℕ × ℕ). words_of_buffer s z.0) same ∙ (law.keeps r b p held).words))

-- a held publication has as many words as a buffer
held_width : (W : ℕ) (s : PinState) (r b p : ℕ) → Lawful W s → (reader s r).held ≡ Some (b, p) → length (publication_at s p) ≡ W
held_width W s r b p law held = let k = law.keeps r b p held in ap length (sym k.words) ∙ law.sizes.widths b k.buffer

-- a reader that doesn't unpin in a run holds one publication, which stays as it is, and reads only words of it
pub reads_one : (W : ℕ) (s t : PinState) (events : List Event) (answers : List Seen) (r b p : ℕ) → Lawful W s → Runs W s events answers t
    → (reader s r).held ≡ Some (b, p) → KeepsHold r events
    → ((reader t r).held ≡ Some (b, p)) × (publication_at t p ≡ publication_at s p) × (length (publication_at s p) ≡ W) × ReadsOf r (publication_at s p) events answers
reads_one W s t [] answers r b p law h held none =
    (ap (λ (v : PinState). (reader v r).held) h.1 ∙ held, ap (λ (v : PinState). publication_at v p) h.1, held_width W s r b p law held, λ i k e. absurd (none-some (Read r k) e))
reads_one W s t (e ∷ es) answers r b p law h held none =
    let u : PinState = h.1 in
    let on : (reader u r).held ≡ Some (b, p) = stays_held W s u h.0 r b p law held e (λ last same. none 0 last (ap (λ (x : Event). Some x) same)) h.4 in
    let below : p < published s = (let q = (law.seen r).held b p held in let m = (law.seen r).most in omega arith) in
    let same : publication_at u p ≡ publication_at s p = adds_keeps s u p (step_adds W s u e h.0 h.4) below in
    let rest = reads_one W u t es h.2 r b p (step_keeps W s u e h.0 law h.4) h.5 on (λ i last. none (suc i) last) in
    let wide : length (publication_at s p) ≡ W = held_width W s r b p law held in
    (rest.0, rest.1 ∙ same, wide, reads u rest.3 same wide)
  where
    reads : (u : PinState) → ReadsOf r (publication_at u p) es h.2 → publication_at u p ≡ publication_at s p → length (publication_at s p) ≡ W → ReadsOf r (publication_at s p) (e ∷ es) answers
    reads u later same wide zero k is =
        let first = read_word W s h.1 h.0 r b p k law held (subst (λ (x : Event). Steps W s x h.0 h.1) (same_Some e (Read r k) is) h.4) in
        let fits = first.0 in
        (omega arith, ap (λ (l : List Seen). slice_get l 0) h.3 ∙ ap (λ (x : Seen). Some x) first.1)
    reads u later same wide (suc i) k is =
        let at = later i k is in
        (subst (λ (l : List ℕ). k < length l) same at.0, ap (λ (l : List Seen). slice_get l (suc i)) h.3 ∙ (at.1 ∙ ap (λ (l : List ℕ). Some (Word (get_or l k 0))) same))

-- a Pin gives the last publication
pub pins_last : (W : ℕ) (s t : PinState) (a : Seen) (r : ℕ) → Lawful W s → Steps W s (Pin r) a t
    → (p : ℕ) × ((reader t r).held ≡ Some (s.index, p)) × (p + 1 ≡ published s) × ((reader s r).seen - 1 ≤ p)
pins_last W s t a r law h =
    let n = law.sizes.seats in let c = h.0.0 in
    let inside : r < length s.readers = omega arith in
    let some = law.latest.some in
    let most = (law.seen r).most in
    (published s - 1, ap (λ (v : PinState). (reader v r).held) h.2 ∙ ap (λ (x : Reader). x.held) (get_or-set_same s.readers r (pinning s.index (published s) (reader s r)) newcomer inside), omega arith, omega arith)

-- a change of one reader that does not come to hold b
gains_none : (rs : List Reader) (q b : ℕ) (x : Reader) → q < length rs → at_buffer b x.held ≤ at_buffer b (get_or rs q newcomer).held → holders b (set rs q x) ≤ holders b rs
gains_none rs q b x inside le = let s = sum_by-set (λ (y : Reader). at_buffer b y.held) rs q x newcomer inside in omega arith

-- only the current buffer gains holders
pub only_current : (W : ℕ) (s t : PinState) (e : Event) (a : Seen) (b : ℕ) → Lawful W s → Steps W s e a t → b ≢ s.index → holders b t.readers ≤ holders b s.readers
only_current W s t (Look q) a b law h ne = subst (λ (v : PinState). holders b v.readers ≤ holders b s.readers) (sym h.2)
    (let n = law.sizes.seats in let c = h.0.0 in gains_none s.readers q b (looking s.index (published s) (reader s q)) (omega arith) (omega arith))
only_current W s t (Unpin q last) a b law h ne = subst (λ (v : PinState). holders b v.readers ≤ holders b s.readers) (sym h.4)
    (let n = law.sizes.seats in let c = h.2.0 in gains_none s.readers q b (leaving last (reader s q)) (omega arith) (omega arith))
only_current W s t (Pin q) a b law h ne = subst (λ (v : PinState). holders b v.readers ≤ holders b s.readers) (sym h.2)
    (let n = law.sizes.seats in let c = h.0.0 in
    let other : at_buffer b (Some (s.index, published s - 1)) ≡ 0 = at_other s.index b (published s - 1) (λ e. ne (sym e)) in
    gains_none s.readers q b (pinning s.index (published s) (reader s q)) (omega arith) (omega arith))
only_current W s t (Read q k) a b law h ne = subst (λ (v : PinState). holders b v.readers ≤ holders b s.readers) (sym h.4) (omega arith)
only_current W s t (Scan c) a b law h ne = subst (λ (v : PinState). holders b v.readers ≤ holders b s.readers) (sym h.2) (omega arith)
only_current W s t (Reset c) a b law h ne = subst (λ (v : PinState). holders b v.readers ≤ holders b s.readers) (sym h.2) (omega arith)
only_current W s t (Write k x) a b law h ne = subst (λ (v : PinState). holders b v.readers ≤ holders b s.readers) (sym h.3) (omega arith)
only_current W s t Publish a b law h ne = subst (λ (v : PinState). holders b v.readers ≤ holders b s.readers) (sym h.3) (omega arith)
