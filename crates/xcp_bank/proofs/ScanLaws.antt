-- What a Scan tells of its buffer's holders.
use Rattle.std.proofs.Common.{◌≡◌, ◌≢◌, ◌+◌, ◌<◌, ◌≤◌, ℕ, List, [], ◌∷◌, ◌++◌, length, sym, ap, ◌∙◌, subst, arith}
use Rattle.pin_core.specs.declared.events.Event.{Event}
use Rattle.pin_core.specs.declared.events.Event.TheVariants as ev
use Rattle.pin_core.specs.declared.events.Seen.{Seen}
use Rattle.pin_core.specs.declared.events.Seen.TheVariants as an
use Rattle.pin_core.specs.State.{PinState, started_of, leavings_of, opening}
use Rattle.pin_core.specs.StateInvariant.{Lawful, holders}
use Rattle.pin_core.specs.Steps.{Steps, Runs}
use Rattle.pin_core.proofs.OpeningLaws.{opening_lawful}
use Rattle.pin_core.proofs.StepLaws.{run_keeps}
use Rattle.xcp_bank.specs.PinHistory.{Deed, deed_events, answers_of, Ran, has_scanned}
use Rattle.xcp_bank.proofs.HistoryLemmas.{head_same}
use Rattle.xcp_bank.proofs.LookLaws.{runs_split}

-- a run of no event
ends_there : (W : ℕ) (u s : PinState) (answers : List Seen) → Runs W u [] answers s → s ≡ u
ends_there W u s answers r = r.1

-- a run of one event
one_step : (W : ℕ) (u s : PinState) (e : Event) (a : Seen) → Runs W u (e ∷ []) (a ∷ []) s → Steps W u e a s
one_step W u s e a r =
    let end : s ≡ r.1 = ends_there W r.1 s r.2 r.5 in
    subst (Steps W u e a) (sym end) (subst (λ (z : Seen). Steps W u e z r.1) (sym (head_same a r.0 [] r.2 r.3)) r.4)

abbrev left_in : Seen → ℕ
left_in (an.Leavings n) = n
left_in _ = 0

scan_tells : (W : ℕ) (u s : PinState) (b n : ℕ) → Lawful W s → Steps W u (ev.Scan b) (an.Leavings n) s → (b ≢ s.index) × (started_of s b ≡ n + holders b s.readers)
scan_tells W u s b n law st =
    let apart : b ≢ s.index = λ e. st.0.1 (e ∙ ap (λ (z : PinState). z.index) st.2) in
    let left : leavings_of s b ≡ n = ap (λ (z : PinState). leavings_of z b) st.2 ∙ sym (ap left_in st.1) in
    (apart, (law.others b st.0.0 apart).exact ∙ ap (λ (m : ℕ). m + holders b s.readers) left)

module _ (W : ℕ) (some : 0 < W) (few : W ≤ 131073) where
  lawful_then : (history : List Deed) (s : PinState) → Ran W history s → Lawful W s
  lawful_then history s r =
      let wide : length r.0 ≡ W = r.1 in
      let opens : Lawful W (opening r.0) = subst (λ (n : ℕ). Lawful n (opening r.0)) wide (opening_lawful r.0 (omega arith) (omega arith)) in
      run_keeps W (opening r.0) s (deed_events history) (answers_of history) opens r.2

  -- right after a Scan that told n its buffer isn't current, and its started count is n plus the number of its holders
  pub scans_tell : (front : List Deed) (b n : ℕ) (s : PinState) → Ran W (front ++ has_scanned b n ∷ []) s → (b ≢ s.index) × (started_of s b ≡ n + holders b s.readers)
  scans_tell front b n s r =
      let last = runs_split W (opening r.0) s front (has_scanned b n ∷ []) r.2 in
      scan_tells W last.0 s b n (lawful_then (front ++ has_scanned b n ∷ []) s r) (one_step W last.0 s (ev.Scan b) (an.Leavings n) last.1)
