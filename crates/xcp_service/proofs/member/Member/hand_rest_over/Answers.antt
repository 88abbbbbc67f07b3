use Rattle.std.proofs.Common.{◌∙◌, ap, sym}
use Rattle.xcp_locked.specs.Caller.{CallerValue}
use Rattle.xcp_service.proofs.HandedLemmas.{counted_on, handing_over}
use Rattle.xcp_service.proofs.member.Member.hand_rest_over.Goals as goal

pub invariant_of-self : goal.invariant_of-self
invariant_of-self g c =
    let m = c.self.inside in
    let d = c.hand_over.new.caller in
    let qs = c.hand_over.new.tray.put in
    let locked = c.args.resident.now.locked in (
      c.hand_over.ensures.same.0 ∙ c.self.invariant.0,
      c.hand_over.ensures.same.1 ∙ (c.self.invariant.1 ∙ sym (ap (λ (x : CallerValue). x.number) (handing_over c.hand_over.result m.caller d m.tray.put qs locked c.hand_over.ensures.handed))),
      counted_on c.hand_over.result m.caller d m.tray.put qs locked c.hand_over.ensures.handed c.self.invariant.2,
    )

pub returns-then-len-gt0 : goal.returns-then-len-gt0
returns-then-len-gt0 g c =
    let m = c.self.inside in
    (handing_over c.hand_over.result m.caller c.hand_over.new.caller m.tray.put c.hand_over.new.tray.put c.args.resident.now.locked c.hand_over.ensures.handed ∙ c.self.view_is, c.hand_over.ensures.slave)
