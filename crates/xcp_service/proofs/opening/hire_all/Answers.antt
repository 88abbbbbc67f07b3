use Rattle.std.proofs.Common.{◌∙◌, List, ℕ, arith, length, refl, ap, sym, subst}
use Rattle.std.specs.List.{AllByRecursion}
use Rattle.std.specs.Vec.Iter.{into_iter_items}
use Rattle.relay.specs.Ends.{TakerValue}
use Rattle.xcp_locked.specs.Caller.{CallerValue}
use Rattle.xcp_service.specs.Parcels.{AreNumbered, HasAllReceipts, ParcelValue}
use Rattle.xcp_service.proofs.ParcelLemmas.{counted_callers, length-callers_of, numbered_callers}
use Rattle.xcp_service.proofs.opening.hire_all.Goals as goal

pub loop-caller-init : goal.loop-caller-init
loop-caller-init g c =
    let taker = c.requires.first in
    let opened = c.requires.callers in
    let items = c.into_iter-caller-iterator.ensures.into_iter_gives.0 in (
      refl,
      c.new-members.ensures.items,
      subst (λ (n : ℕ). AreNumbered n (into_iter_items c.into_iter-caller-iterator.result)) (sym (ap (λ (t : TakerValue ParcelValue). t.givers) taker))
          (subst (λ (l : List CallerValue). AreNumbered 0 l) (sym (items ∙ opened.1)) (numbered_callers opened.0 g.N.Ledger.parts)),
      ap (λ (t : TakerValue ParcelValue). t.relay) taker ∙ c.requires.relay,
      ap (λ (t : TakerValue ParcelValue). t.taken) taker,
      (let none = ap (λ (t : TakerValue ParcelValue). t.givers) taker in let many = ap length (items ∙ opened.1) ∙ length-callers_of opened.0 g.N.Ledger.parts in omega (arith, none, many)),
      subst (λ (l : List CallerValue). AllByRecursion HasAllReceipts l) (sym (items ∙ opened.1)) (counted_callers opened.0 g.N.Ledger.parts),
    )
