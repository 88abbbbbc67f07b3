use Rattle.std.proofs.Common.{◌≡◌, Some, [], set, rules, arith, subst}
use Rattle.pin_core.specs.State.{PinState, width}
use Rattle.pin_core.specs.Effects.{CanReset, after_reset}
use Rattle.pin_core.specs.StateInvariant.{Lawful}
use Rattle.pin_core.specs.contracts.pins.Core.{the_view}
use Rattle.pin_core.proofs.WriterStepLemmas.{reset_keeps}
use Rattle.pin_core.proofs.pins.Core.reset.Goals as goal

pub invariant_of-self : goal.invariant_of-self
invariant_of-self c =
    let s : PinState = the_view c.self.inside in
    let quiet : s.writer.quiet ≡ Some c.args.b = search rules in
    let can : CanReset s c.args.b = ((c.self.invariant.1.builds.quiet c.args.b quiet).0, quiet) in
    let same : after_reset s c.args.b ≡ record s { leavings = set s.leavings c.from-at.result 0; writer = record s.writer { started = set s.writer.started c.from-at.result 0; building = Some c.args.b; written = [] } } = search rules in
    (omega arith, subst (Lawful (width s)) same (reset_keeps (width s) s c.args.b c.self.invariant.1 can))
