-- A writer that scans all other buffers finds a quiet one: one of them was idle, and it stays so.
use Rattle.std.proofs.Common.{◌≡◌, ℕ, zero, suc, ◌+◌, cond, eq-eqb, List, [], ◌∷◌, take, refl, ap, ◌∙◌, subst, arith, Some, None, slice_get}
use Rattle.std.proofs.lemmas.Option.{none-some, same_Some}
use Rattle.pin_core.specs.declared.events.Event.{Event}
use Rattle.pin_core.specs.declared.events.Event.TheVariants.{Look, Unpin, Pin, Read, Scan, Reset, Write, Publish}
use Rattle.pin_core.specs.declared.events.Seen.{Seen}
use Rattle.pin_core.specs.State.{PinState, started_of, leavings_of}
use Rattle.pin_core.specs.Steps.{Steps, Runs}
use Rattle.pin_core.specs.StateInvariant.{Lawful, IsIdle}
use Rattle.pin_core.specs.Laws.{Builds, OnlyScans, ScansAllOthers, FindsQuiet}
use Rattle.pin_core.proofs.IdleBufferLaws.{some_idle}
use Rattle.pin_core.proofs.StepLaws.{step_keeps}
use Rattle.pin_core.proofs.HeldBufferLaws.{only_current}

-- only a Publish changes the current buffer
stays_current : (W : ℕ) (s t : PinState) (e : Event) (a : Seen) → ¬ Builds e → Steps W s e a t → t.index ≡ s.index
stays_current W s t (Look r) a no' h = ap (λ (v : PinState). v.index) h.2
stays_current W s t (Unpin r last) a no' h = ap (λ (v : PinState). v.index) h.4
stays_current W s t (Pin r) a no' h = ap (λ (v : PinState). v.index) h.2
stays_current W s t (Read r k) a no' h = ap (λ (v : PinState). v.index) h.4
stays_current W s t (Scan b) a no' h = ap (λ (v : PinState). v.index) h.2
stays_current W s t (Reset b) a no' h = ap (λ (v : PinState). v.index) h.2
stays_current W s t (Write k x) a no' h = ap (λ (v : PinState). v.index) h.3
stays_current W s t Publish a no' h = absurd (no' tt)

-- a Scan of an idle buffer finds it quiet
scan_idle : (W : ℕ) (s t : PinState) (a : Seen) (b : ℕ) → Lawful W s → IsIdle s b → Steps W s (Scan b) a t → t.writer.quiet ≡ Some b
scan_idle W s t a b law idle h =
    let exact = (law.others b idle.0 idle.1).exact in let free = idle.2 in
    let balance : started_of s b ≡ leavings_of s b = omega arith in
    ap (λ (v : PinState). v.writer.quiet) h.2 ∙ ap (λ t. cond t (Some b) None) (eq-eqb (started_of s b) (leavings_of s b) balance)

finds : (W : ℕ) (s t : PinState) (events : List Event) (answers : List Seen) (i b : ℕ) → Lawful W s → Runs W s events answers t → OnlyScans events → IsIdle s b
    → slice_get events i ≡ Some (Scan b) → (found : List Seen) × (u : PinState) × Runs W s (take (suc i) events) found u × (u.writer.quiet ≡ Some b)
finds W s t [] answers i b law h only idle is = absurd (none-some (Scan b) is)
finds W s t (e ∷ es) answers zero b law h only idle is =
    (h.0 ∷ [], h.1, (h.0, h.1, [], refl, h.4, (refl, refl)), scan_idle W s h.1 h.0 b law idle (subst (λ (x : Event). Steps W s x h.0 h.1) (same_Some e (Scan b) is) h.4))
finds W s t (e ∷ es) answers (suc i) b law h only idle is =
    let u : PinState = h.1 in
    let same : u.index ≡ s.index = stays_current W s u e h.0 (only 0 e refl) h.4 in
    let free = idle.2 in
    let less = only_current W s u e h.0 b law h.4 idle.1 in
    let rest = finds W u t es h.2 i b (step_keeps W s u e h.0 law h.4) h.5 (λ j x at. only (suc j) x at) (idle.0, (λ x. idle.1 (x ∙ same)), omega arith) is in
    (h.0 ∷ rest.0, rest.1, (h.0, u, rest.0, refl, h.4, rest.2), rest.3)

-- a run from a lawful state that scans every buffer but the current one, and builds nothing, finds a quiet one
pub scans_find : (W : ℕ) (s t : PinState) (events : List Event) (answers : List Seen) → Lawful W s → Runs W s events answers t → OnlyScans events → ScansAllOthers s events → FindsQuiet W s events
scans_find W s t events answers law h only all =
    let idle = some_idle W s law in
    let at = all idle.0 idle.1.0 idle.1.1 in
    let found = finds W s t events answers at.0 idle.0 law h only idle.1 at.1 in
    let next : suc at.0 ≡ at.0 + 1 = omega arith in
    (at.0, idle.0, found.0, found.1, at.1, subst (λ (n : ℕ). Runs W s (take n events) found.0 found.1) next found.2, found.3)
