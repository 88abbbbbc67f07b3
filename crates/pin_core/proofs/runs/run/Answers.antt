use Rattle.std.proofs.Common.{◌≡◌, ℕ, List, [], ◌∷◌, ◌++◌, take, get_or, arith, sym, ◌∙◌, subst}
use Rattle.std.proofs.lemmas.Grind.{common_steps}
use Rattle.std.proofs.lemmas.List.{take_more}
use Rattle.std.proofs.lemmas.Option.{slice_get-get_or}
use Rattle.pin_core.specs.declared.events.Event.{Event}
use Rattle.pin_core.specs.declared.events.Event.TheVariants.{Look}
use Rattle.pin_core.specs.declared.events.Seen.{Seen}
use Rattle.pin_core.specs.State.{PinState, width}
use Rattle.pin_core.specs.Steps.{Runs, Steps, RefusesEvent}
use Rattle.pin_core.proofs.StepLaws.{run_more}
use Rattle.pin_core.proofs.runs.run.Goals as goal

pub returns-in-Err-clause-stopped : goal.returns-in-Err-clause-stopped
returns-in-Err-clause-stopped c =
    let before = c.loop-index.invariant in
    let i : ℕ = c.loop-index.index in
    let events : List Event = c.args.events.now in
    let event : Event = get_or events i (Look 0) in
    let refused : RefusesEvent (width c.args.core.now) c.loop-index.core event c.in-Err.error = subst (λ (w : ℕ). RefusesEvent w c.loop-index.core event c.in-Err.error) before.same c.in-Err.ensures.refused in
    let both = subst (λ (t : PinState). Runs (width c.args.core.now) c.args.core.now (take i events) c.loop-index.answers.items t × RefusesEvent (width c.args.core.now) t event c.in-Err.error)
    (sym c.in-Err.ensures.unchanged) (before.ran, refused) in
    (event, c.loop-index.answers.items, slice_get-get_or events i (Look 0) c.loop-index-test.true, both.0, both.1)

pub loop-index-preserved : goal.loop-index-preserved
loop-index-preserved c =
    let before = c.loop-index.invariant in
    let i : ℕ = c.loop-index.index in
    let events : List Event = c.args.events.now in
    let event : Event = get_or events i (Look 0) in
    let step : Steps (width c.args.core.now) c.loop-index.core event c.in-Ok-step.seen c.step.new.self =
    subst (λ (w : ℕ). Steps w c.loop-index.core event c.in-Ok-step.seen c.step.new.self) before.same c.in-Ok-step.ensures.done in
    let room : c.push.new.self.items ≡ c.loop-index.answers.items ++ c.in-Ok-step.seen ∷ [] = grind (arith, common_steps) in
    let more = take_more events i (Look 0) c.loop-index-test.true in
    let ran = run_more (width c.args.core.now) c.args.core.now c.loop-index.core c.step.new.self (take i events) c.loop-index.answers.items event c.in-Ok-step.seen before.ran step in
    record {
      ran = subst (λ (es : List Event). Runs (width c.args.core.now) c.args.core.now es c.push.new.self.items c.step.new.self) (sym more)
          (subst (λ (answers : List Seen). Runs (width c.args.core.now) c.args.core.now (take i events ++ event ∷ []) answers c.step.new.self) (sym room) ran);
      same = c.in-Ok-step.ensures.same_width ∙ before.same;
      many = grind (arith, common_steps);
      room = grind (arith, common_steps);
    }
