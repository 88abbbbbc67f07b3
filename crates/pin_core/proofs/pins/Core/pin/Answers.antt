use Rattle.std.proofs.Common.{◌≡◌, ◌<◌, ◌+◌, length, set, false, None, sym, ◌∙◌, ap, arith, subst}
use Rattle.std.proofs.lemmas.Grind.{common_steps}
use Rattle.pin_core.specs.State.{Reader, PinState, newcomer, reader, width}
use Rattle.pin_core.specs.Effects.{CanPin, after_pin}
use Rattle.pin_core.specs.StateInvariant.{Lawful}
use Rattle.pin_core.specs.contracts.pins.Core.{the_view}
use Rattle.pin_core.proofs.ListLemmas.{there}
use Rattle.pin_core.proofs.ReaderStepLemmas.{pin_keeps}
use Rattle.pin_core.proofs.pins.Core.pin.Goals as goal

pub invariant_of-self : goal.invariant_of-self
invariant_of-self c =
    let s : PinState = the_view c.self.inside in
    let inside : c.from-at.result < length s.readers = (let n = c.self.invariant.1.sizes.seats in omega arith) in
    let first = there s.readers c.from-at.result c.args.r c.index-self-at.result newcomer c.from-at.ensures inside in
    let second = there s.readers c.from-at.result c.args.r c.index-self-at-2.result newcomer c.from-at.ensures inside in
    let third = there s.readers c.from-at.result c.args.r c.index-self-at-3.result newcomer c.from-at.ensures inside in
    let stays : (reader s c.args.r).gone ≡ false = sym (ap (λ (x : Reader). x.gone) first) ∙ (sym c.is_gone.ensures ∙ c.if-is_gone.false) in
    let free : (reader s c.args.r).held ≡ None = grind (arith, common_steps) in
    let can : CanPin s c.args.r = (omega arith, stays, free) in
    let same : after_pin s c.args.r ≡ record s { count = s.count + 1; readers = set s.readers c.from-at.result c.pinning.result } = grind (arith, common_steps) in
    (c.self.invariant.0, subst (Lawful (width s)) same (pin_keeps (width s) s c.args.r c.self.invariant.1 can))
