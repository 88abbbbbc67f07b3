use Rattle.std.proofs.Common.{◌≡◌, ◌<◌, ◌∙◌, ◌++◌, ◌∷◌, [], List, length, ap, inr, refl, sym, subst, arith}
use Rattle.std.specs.List.{AllByRecursion}
use Rattle.std.specs.Vec.Iter.{into_iter_items}
use Rattle.xcp_locked.proofs.PairedListLemmas.{finish, turn}
use Rattle.xcp_locked.specs.Caller.{CallerValue}
use Rattle.xcp_service.specs.Keeping.{KeeperValue, caller_limit}
use Rattle.xcp_service.specs.Parcels.{AreNumbered, HasAllReceipts, IsHandedOver}
use Rattle.xcp_service.proofs.KeepingLemmas.{all_more}
use Rattle.xcp_service.proofs.ParcelLemmas.{numbered_at, numbered_more}
use Rattle.xcp_service.proofs.former.resign_all.Goals as goal

pub loop-member-preserved : goal.loop-member-preserved
loop-member-preserved g c =
    let at = c.loop-member in
    let former = c.in-Some-resign.former in
    let items : c.push_reserved.new.self.items ≡ at.all.items ++ former ∷ [] = c.push_reserved.ensures.items ∙ ap (λ (l : List CallerValue). l ++ former ∷ []) c.reserve.ensures.items in
    let number = c.number.ensures in
    let is = c.if-number-len.false in
    let many = c.len.ensures in
    let same = c.resign.ensures.same in (
      subst (λ (l : List CallerValue). AreNumbered 0 l) (sym items) (numbered_more 0 at.all.items former at.invariant.0 (omega (arith, number, is, many))),
      subst (λ (l : List CallerValue). AllByRecursion (IsHandedOver c.resign.new.collector) l) (sym items)
          (all_more (IsHandedOver c.resign.new.collector) at.all.items former
          (subst (λ (k : KeeperValue). AllByRecursion (IsHandedOver k) at.all.items) (sym same) at.invariant.1)
          (c.in-Some-resign.ensures.handed)),
      same ∙ at.invariant.2,
      subst (λ (l : List CallerValue). l ++ into_iter_items c.next.new.self ≡ into_iter_items c.into_iter-member-iterator.result) (sym items) (turn at.all.items _ _ _ former at.invariant.3 (c.in-Some.ensures.steps.0 ∙ ap (λ (x : CallerValue). x ∷ into_iter_items c.next.new.self) (sym c.in-Some-resign.ensures.former))),
      omega (arith, ap length c.in-Some.ensures.steps.0, c.in-Some.ensures.steps.1, at.invariant.4),
      subst (λ (l : List CallerValue). AllByRecursion (λ (x : CallerValue). x.number < caller_limit) l) (sym items)
          (all_more (λ (x : CallerValue). x.number < caller_limit) at.all.items former at.invariant.5 (omega (arith, number, c.number.type_inv))),
      subst (λ (l : List CallerValue). AllByRecursion HasAllReceipts l) (sym items) (all_more HasAllReceipts at.all.items former at.invariant.6 c.in-Some-resign.ensures.counted),
    )

pub returns-clause-members : goal.returns-clause-members
returns-clause-members g c =
    let at = c.loop-member in
    finish at.all.items _ _ c.args.members.items _ at.invariant.3 at.invariant.4 c.in-None.ensures.steps.0 c.into_iter-member-iterator.ensures.into_iter_gives.0

pub returns-then-number-len-clause-refused : goal.returns-then-number-len-clause-refused
returns-then-number-len-clause-refused g c =
    let at = c.loop-member in
    let former = c.in-Some-resign.former in
    let rest = c.in-Some.ensures.steps.0 ∙ ap (λ (x : CallerValue). x ∷ into_iter_items c.next.new.self) (sym c.in-Some-resign.ensures.former) in
    let all : c.args.members.items ≡ at.all.items ++ former ∷ into_iter_items c.next.new.self =
    sym (ap (λ (l : List CallerValue). at.all.items ++ l) (sym rest) ∙ (at.invariant.3 ∙ c.into_iter-member-iterator.ensures.into_iter_gives.0)) in
    let number = c.number.ensures in
    let differs = c.if-number-len.true in
    let many = c.len.ensures in
    inr (_, refl, λ numbered. absurd (let is = numbered_at 0 at.all.items former (into_iter_items c.next.new.self) (subst (λ (l : List CallerValue). AreNumbered 0 l) all numbered) in omega (arith, number, differs, many, is)))
