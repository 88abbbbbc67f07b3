use Rattle.std.proofs.Common.{◌≡◌, ◌≢◌, ◌⊎◌, ℕ, ◌<◌, ◌+◌, length, set, get_or, true, rules, arith, sym, subst, Some}
use Rattle.std.proofs.lemmas.Grind.{common_steps}
use Rattle.pin_core.specs.State.{Reader, PinState, newcomer, reader, width}
use Rattle.pin_core.specs.Effects.{CanUnpin, after_unpin}
use Rattle.pin_core.specs.StateInvariant.{Lawful}
use Rattle.pin_core.specs.contracts.pins.Core.{the_view}
use Rattle.pin_core.proofs.ListLemmas.{there}
use Rattle.pin_core.proofs.ReaderStepLemmas.{unpin_keeps}
use Rattle.pin_core.proofs.pins.Core.unpin.Goals as goal

pub invariant_of-self : goal.invariant_of-self
invariant_of-self c =
    let s : PinState = the_view c.self.inside in
    let r : ℕ = c.args.r in
    let b : ℕ = c.in-Some.b in
    let last = c.args.last in
    let found = c.in-Some.ensures.held in
    let p : ℕ = found.0 in
    let below = found.1 in
    let held : (reader s r).held ≡ Some (b, p) = subst (λ (t : PinState). (reader t r).held ≡ Some (b, p)) (sym c.self.view_is) found.2 in
    let inside : c.from-at.result < length s.readers = (let n = c.self.invariant.1.sizes.seats in omega arith) in
    let first = there s.readers c.from-at.result r c.index-self-at.result newcomer c.from-at.ensures inside in
    let second = there s.readers c.from-at.result r c.index-self-at-2.result newcomer c.from-at.ensures inside in
    let said = c.can_leave.ensures.0 (search rules) in
    let why : ((reader s r).looked ≢ b) ⊎ (last ≡ true) = subst (λ (x : Reader). (x.looked ≢ b) ⊎ (last ≡ true)) first said in
    let can : CanUnpin s r b p last = (below, held, why) in
    let same : after_unpin s r b last ≡ record s { leavings = set s.leavings c.from.result (get_or s.leavings c.from.result 0 + 1); readers = set s.readers c.from-at.result c.leaving.result } = grind (arith, common_steps) in
    (c.self.invariant.0, subst (Lawful (width s)) same (unpin_keeps (width s) s r b p last c.self.invariant.1 can))
