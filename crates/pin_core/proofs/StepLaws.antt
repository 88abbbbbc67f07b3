-- Steps and runs: each state is lawful, each event has one answer and one next state.
use Rattle.std.proofs.Common.{◌≡◌, ℕ, ◌<◌, ◌≤◌, List, [], ◌∷◌, ◌++◌, length, set, get_or, sym, refl, ap, ◌∙◌, subst, arith, Option, Some, append_assoc}
use Rattle.std.proofs.lemmas.List.{get_or_append_left}
use Rattle.std.proofs.lemmas.Option.{same_Some}
use Rattle.pin_core.specs.declared.events.Event.{Event}
use Rattle.pin_core.specs.declared.events.Event.TheVariants.{Look, Unpin, Pin, Read, Scan, Reset, Write, Publish}
use Rattle.pin_core.specs.declared.events.Seen.{Seen}
use Rattle.pin_core.specs.declared.events.Seen.TheVariants.{Index, Word, Leavings, Done}
use Rattle.pin_core.specs.State.{Reader, PinState, newcomer, reader, words_of_buffer, leavings_of, published, publication_at}
use Rattle.pin_core.specs.Effects.{looking, pinning, leaving, after_look, after_pin, after_unpin, after_scan, after_reset, after_write, after_publish}
use Rattle.pin_core.specs.Steps.{IsEnabled, Steps, Runs}
use Rattle.pin_core.specs.StateInvariant.{Lawful}
use Rattle.pin_core.proofs.ListLemmas.{at_each}
use Rattle.pin_core.proofs.ReaderStepLemmas.{look_keeps, pin_keeps, unpin_keeps}
use Rattle.pin_core.proofs.WriterStepLemmas.{scan_keeps, reset_keeps, write_keeps, publish_keeps}

-- a step from a lawful state leads to a lawful state
pub step_keeps : (W : ℕ) (s t : PinState) (e : Event) (a : Seen) → Lawful W s → Steps W s e a t → Lawful W t
step_keeps W s t (Look r) a law h = subst (Lawful W) (sym h.2) (look_keeps W s r law h.0)
step_keeps W s t (Unpin r last) a law h = subst (Lawful W) (sym h.4) (unpin_keeps W s r h.0 h.1 last law h.2)
step_keeps W s t (Pin r) a law h = subst (Lawful W) (sym h.2) (pin_keeps W s r law h.0)
step_keeps W s t (Read r k) a law h = subst (Lawful W) (sym h.4) law
step_keeps W s t (Scan b) a law h = subst (Lawful W) (sym h.2) (scan_keeps W s b law h.0)
step_keeps W s t (Reset b) a law h = subst (Lawful W) (sym h.2) (reset_keeps W s b law h.0)
step_keeps W s t (Write k x) a law h = subst (Lawful W) (sym h.3) (write_keeps W s k x h.0 law h.1)
step_keeps W s t Publish a law h = subst (Lawful W) (sym h.3) (publish_keeps W s h.0 law h.1)

-- a run from a lawful state leads to a lawful state
pub run_keeps : (W : ℕ) (s t : PinState) (es : List Event) (answers : List Seen) → Lawful W s → Runs W s es answers t → Lawful W t
run_keeps W s t [] answers law h = subst (Lawful W) (sym h.1) law
run_keeps W s t (e ∷ es) answers law h = run_keeps W h.1 t es h.2 (step_keeps W s h.1 e h.0 law h.4) h.5

-- an event that has a step can happen
pub step_enabled : (W : ℕ) (s t : PinState) (e : Event) (a : Seen) → Steps W s e a t → IsEnabled W s e
step_enabled W s t (Look r) a h = h.0
step_enabled W s t (Unpin r last) a h = (h.0, h.1, h.2)
step_enabled W s t (Pin r) a h = h.0
step_enabled W s t (Read r k) a h = (h.0, h.1, h.2)
step_enabled W s t (Scan b) a h = h.0
step_enabled W s t (Reset b) a h = h.0
step_enabled W s t (Write k x) a h = (h.0, h.1)
step_enabled W s t Publish a h = (h.0, h.1)

-- an event that can happen has a step
pub enabled_steps : (W : ℕ) (s : PinState) (e : Event) → IsEnabled W s e → (a : Seen) × (t : PinState) × Steps W s e a t
enabled_steps W s (Look r) h = (Index s.index, after_look s r, (h, refl, refl))
enabled_steps W s (Unpin r last) h = (Done, after_unpin s r h.0 last, (h.0, h.1, h.2, refl, refl))
enabled_steps W s (Pin r) h = (Index s.index, after_pin s r, (h, refl, refl))
enabled_steps W s (Read r k) h = (Word (get_or (words_of_buffer s h.0) k 0), s, (h.0, h.1, h.2, refl, refl))
enabled_steps W s (Scan b) h = (Leavings (leavings_of s b), after_scan s b, (h, refl, refl))
enabled_steps W s (Reset b) h = (Done, after_reset s b, (h, refl, refl))
enabled_steps W s (Write k x) h = (Done, after_write s k x h.0, (h.0, h.1, refl, refl))
enabled_steps W s Publish h = (Done, after_publish s h.0, (h.0, h.1, refl, refl))

same_hold : (o : Option (ℕ × ℕ)) (b c p q : ℕ) → o ≡ Some (b, p) → o ≡ Some (c, q) → b ≡ c
same_hold o b c p q e f = ap (λ (z : ℕ × ℕ). z.0) (same_Some (b, p) (c, q) (sym e ∙ f))

same_built : (o : Option ℕ) (b c : ℕ) → o ≡ Some b → o ≡ Some c → b ≡ c
same_built o b c e f = same_Some b c (sym e ∙ f)

-- an event in a state has one answer and one next state at most
pub determined : (W : ℕ) (s t u : PinState) (e : Event) (a b : Seen) → Steps W s e a t → Steps W s e b u → (a ≡ b) × (t ≡ u)
determined W s t u (Look r) a b h k = (h.1 ∙ sym k.1, h.2 ∙ sym k.2)
determined W s t u (Unpin r last) a b h k = (h.3 ∙ sym k.3, h.4 ∙ (ap (λ (c : ℕ). after_unpin s r c last) (same_hold (reader s r).held h.0 k.0 h.1 k.1 h.2.1 k.2.1) ∙ sym k.4))
determined W s t u (Pin r) a b h k = (h.1 ∙ sym k.1, h.2 ∙ sym k.2)
determined W s t u (Read r n) a b h k = (h.3 ∙ (ap (λ (c : ℕ). Word (get_or (words_of_buffer s c) n 0)) (same_hold (reader s r).held h.0 k.0 h.1 k.1 h.2.1 k.2.1) ∙ sym k.3), h.4 ∙ sym k.4)
determined W s t u (Scan c) a b h k = (h.1 ∙ sym k.1, h.2 ∙ sym k.2)
determined W s t u (Reset c) a b h k = (h.1 ∙ sym k.1, h.2 ∙ sym k.2)
determined W s t u (Write n x) a b h k = (h.2 ∙ sym k.2, h.3 ∙ (ap (λ (c : ℕ). after_write s n x c) (same_built s.writer.building h.0 k.0 h.1.0 k.1.0) ∙ sym k.3))
determined W s t u Publish a b h k = (h.2 ∙ sym k.2, h.3 ∙ (ap (λ (c : ℕ). after_publish s c) (same_built s.writer.building h.0 k.0 h.1.0 k.1.0) ∙ sym k.3))

-- the publications of t are those of s and some more
abbrev pub Adds : PinState → PinState → Type 0
Adds s t = (more : List (List ℕ)) × (t.writer.publications ≡ s.writer.publications ++ more)

append_none : {A : Type 0} (l : List A) → l ≡ l ++ []
append_none [] = refl
append_none (x ∷ l) = ap (λ k. x ∷ k) (append_none l)

adds_none : (s t : PinState) → t.writer.publications ≡ s.writer.publications → Adds s t
adds_none s t e = ([], e ∙ append_none s.writer.publications)

-- a step only adds publications, behind those that there were
pub step_adds : (W : ℕ) (s t : PinState) (e : Event) (a : Seen) → Steps W s e a t → Adds s t
step_adds W s t (Look r) a h = adds_none s t (ap (λ (v : PinState). v.writer.publications) h.2)
step_adds W s t (Unpin r last) a h = adds_none s t (ap (λ (v : PinState). v.writer.publications) h.4)
step_adds W s t (Pin r) a h = adds_none s t (ap (λ (v : PinState). v.writer.publications) h.2)
step_adds W s t (Read r k) a h = adds_none s t (ap (λ (v : PinState). v.writer.publications) h.4)
step_adds W s t (Scan b) a h = adds_none s t (ap (λ (v : PinState). v.writer.publications) h.2)
step_adds W s t (Reset b) a h = adds_none s t (ap (λ (v : PinState). v.writer.publications) h.2)
step_adds W s t (Write k x) a h = adds_none s t (ap (λ (v : PinState). v.writer.publications) h.3)
step_adds W s t Publish a h = (s.writer.written ∷ [], ap (λ (v : PinState). v.writer.publications) h.3)

-- a change of reader q to x lets no reader have seen fewer
fewer : (s : PinState) (q : ℕ) (x : Reader) → q < length s.readers → (reader s q).seen ≤ x.seen → (r : ℕ) → (reader s r).seen ≤ (get_or (set s.readers q x) r newcomer).seen
fewer s q x inside le r = at_each (λ j y. (reader s j).seen ≤ y.seen) s.readers q x newcomer inside le (λ j ne. omega arith) r

-- after a step from a lawful state no reader has seen fewer publications than before
pub step_seen : (W : ℕ) (s t : PinState) (e : Event) (a : Seen) (r : ℕ) → Lawful W s → Steps W s e a t → (reader s r).seen ≤ (reader t r).seen
step_seen W s t (Look q) a r law h = subst (λ (v : PinState). (reader s r).seen ≤ (reader v r).seen) (sym h.2)
    (let n = law.sizes.seats in let c = h.0.0 in fewer s q (looking s.index (published s) (reader s q)) (omega arith) (law.seen q).most r)
step_seen W s t (Unpin q last) a r law h = subst (λ (v : PinState). (reader s r).seen ≤ (reader v r).seen) (sym h.4)
    (let n = law.sizes.seats in let c = h.2.0 in fewer s q (leaving last (reader s q)) (omega arith) (omega arith) r)
step_seen W s t (Pin q) a r law h = subst (λ (v : PinState). (reader s r).seen ≤ (reader v r).seen) (sym h.2)
    (let n = law.sizes.seats in let c = h.0.0 in fewer s q (pinning s.index (published s) (reader s q)) (omega arith) (law.seen q).most r)
step_seen W s t (Read q k) a r law h = subst (λ (v : PinState). (reader s r).seen ≤ (reader v r).seen) (sym h.4) (omega arith)
step_seen W s t (Scan b) a r law h = subst (λ (v : PinState). (reader s r).seen ≤ (reader v r).seen) (sym h.2) (omega arith)
step_seen W s t (Reset b) a r law h = subst (λ (v : PinState). (reader s r).seen ≤ (reader v r).seen) (sym h.2) (omega arith)
step_seen W s t (Write k x) a r law h = subst (λ (v : PinState). (reader s r).seen ≤ (reader v r).seen) (sym h.3) (omega arith)
step_seen W s t Publish a r law h = subst (λ (v : PinState). (reader s r).seen ≤ (reader v r).seen) (sym h.3) (omega arith)

-- a run from a lawful state only adds publications at the end, and no reader has seen fewer than before
pub run_adds : (W : ℕ) (s t : PinState) (es : List Event) (answers : List Seen) (r : ℕ) → Lawful W s → Runs W s es answers t
    → (more : List (List ℕ)) × (t.writer.publications ≡ s.writer.publications ++ more) × ((reader s r).seen ≤ (reader t r).seen)
run_adds W s t [] answers r law h = ([], ap (λ (v : PinState). v.writer.publications) h.1 ∙ append_none s.writer.publications, subst (λ (v : PinState). (reader s r).seen ≤ (reader v r).seen) (sym h.1) (omega arith))
run_adds W s t (e ∷ es) answers r law h =
    let one = step_adds W s h.1 e h.0 h.4 in
    let rest = run_adds W h.1 t es h.2 r (step_keeps W s h.1 e h.0 law h.4) h.5 in
    let first = step_seen W s h.1 e h.0 r law h.4 in
    let later = rest.2 in
    (one.0 ++ rest.0, rest.1 ∙ (ap (λ (l : List (List ℕ)). l ++ rest.0) one.1 ∙ append_assoc s.writer.publications one.0 rest.0), omega arith)

-- a publication that is there stays what it is
pub adds_keeps : (s t : PinState) (p : ℕ) → Adds s t → p < published s → publication_at t p ≡ publication_at s p
adds_keeps s t p more below = ap (λ (l : List (List ℕ)). get_or l p []) more.1 ∙ get_or_append_left s.writer.publications more.0 [] p below

-- one event more at the end of a run
pub run_more : (W : ℕ) (s t u : PinState) (es : List Event) (answers : List Seen) (e : Event) (a : Seen) → Runs W s es answers t → Steps W t e a u
    → Runs W s (es ++ e ∷ []) (answers ++ a ∷ []) u
run_more W s t u [] answers e a h step = (a, u, [], ap (λ (l : List Seen). l ++ a ∷ []) h.0, subst (λ (v : PinState). Steps W v e a u) h.1 step, (refl, refl))
run_more W s t u (d ∷ ds) answers e a h step =
    (h.0, h.1, h.2 ++ a ∷ [], ap (λ (l : List Seen). l ++ a ∷ []) h.3, h.4, run_more W h.1 t u ds h.2 e a h.5 step)
