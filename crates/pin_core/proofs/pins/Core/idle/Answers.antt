use Rattle.std.proofs.Common.{◌≡◌, ℕ, arith, subst}
use Rattle.pin_core.specs.State.{PinState, width}
use Rattle.pin_core.specs.StateInvariant.{IsIdle}
use Rattle.pin_core.specs.contracts.pins.Core.{the_view}
use Rattle.pin_core.proofs.IdleBufferLaws.{some_idle}
use mathlib.Core.Logic.{dite}
use native.Mathlib.Decide.{dec_le}
use Rattle.pin_core.proofs.pins.Core.idle.Goals as goal

-- some buffer is idle, and none below 7 is
pub returns-clause-idle : goal.returns-clause-idle
returns-clause-idle c =
    let s : PinState = the_view c.self.inside in
    let some = some_idle (width s) s c.self.invariant.1 in
    let all : c.loop-b.b ≡ 7 = omega arith in
    let found : IsIdle c.args.self.now some.0 = subst (λ (t : PinState). IsIdle t some.0) c.self.view_is some.1 in
    let last : some.0 ≡ 7 = dite (dec_le 7 some.0) (λ le. let l = found.0 in omega arith) (λ below. absurd (c.loop-b.invariant some.0 (omega arith) found)) in
    subst (λ (b : ℕ). IsIdle c.args.self.now b) last found
