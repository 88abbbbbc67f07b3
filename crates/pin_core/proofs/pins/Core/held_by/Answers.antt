use Rattle.std.proofs.Common.{◌≡◌, ◌<◌, length, Some, arith, sym, ap, ◌∙◌}
use Rattle.pin_core.specs.State.{Reader, PinState, newcomer, reader}
use Rattle.pin_core.specs.contracts.pins.Core.{the_view}
use Rattle.pin_core.proofs.ListLemmas.{there}
use Rattle.pin_core.proofs.pins.Core.held_by.Goals as goal

pub returns-in-Some-clause-buffer : goal.returns-in-Some-clause-buffer
returns-in-Some-clause-buffer c =
    let s : PinState = the_view c.self.inside in
    let law = c.self.invariant.1 in
    let inside : c.from-at.result < length s.readers = (let n = law.sizes.seats in omega arith) in
    let seat = there s.readers c.from-at.result c.args.r c.index-self-at.result newcomer c.from-at.ensures inside in
    let held : (reader s c.args.r).held ≡ Some (c.in-Some.b, c.in-Some.field-0-1) = sym (ap (λ (x : Reader). x.held) seat) ∙ (sym c.held.ensures ∙ c.in-Some.is) in
    (law.keeps c.args.r c.in-Some.b c.in-Some.field-0-1 held).buffer
