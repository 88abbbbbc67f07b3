use Rattle.std.proofs.Common.{◌≡◌, arith, rules, subst}
use Rattle.std.proofs.lemmas.Grind.{common_steps}
use Rattle.pin_core.specs.State.{PinState, width}
use Rattle.pin_core.specs.Effects.{CanScan, after_scan}
use Rattle.pin_core.specs.StateInvariant.{Lawful}
use Rattle.pin_core.specs.contracts.pins.Core.{the_view}
use Rattle.pin_core.proofs.WriterStepLemmas.{scan_keeps}
use Rattle.pin_core.proofs.pins.Core.scan.Goals as goal

pub invariant_of-self : goal.invariant_of-self
invariant_of-self c =
    let s : PinState = the_view c.self.inside in
    let can : CanScan s c.args.b = search rules in
    let same : after_scan s c.args.b ≡ record s { writer = record s.writer { quiet = c.then_some-self-inside.result } } = grind (arith, common_steps) in
    (c.self.invariant.0, subst (Lawful (width s)) same (scan_keeps (width s) s c.args.b c.self.invariant.1 can))
