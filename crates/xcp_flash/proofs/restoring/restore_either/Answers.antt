use Rattle.std.proofs.Common.{◌≡◌, ◌⊎◌, inl, inr, ◌∙◌, ap, refl, subst, sym}
use Rattle.std.specs.Prelude.{Err}
use Rattle.xcp_memory.specs.Layout.{LayoutValue}
use Rattle.xcp_flash.specs.References.{with_references}
use Rattle.xcp_flash.specs.Restoring.{IsFlashFault, fault_to_tell}
use Rattle.xcp_flash.specs.declared.fault.FlashError.{FlashError}
use Rattle.xcp_flash.proofs.FaultLemmas.{one_content, one_fault}
use Rattle.xcp_flash.proofs.restoring.restore_either.Goals as goal

either_way : {A B C : Type 0} → (A → C) → (B → C) → A ⊎ B → C
either_way f g (inl a) = f a
either_way f g (inr b) = g b

pub returns-in_default-clause-whole : goal.returns-in_default-clause-whole
returns-in_default-clause-whole c = λ pages sized whole.
    let found = c.in_default.ensures.ok in (
      refl,
      either_way
          (λ first. (c.restore.ensures.whole pages sized first).1)
          (λ other. found.restored ∙ ap (λ p. with_references p c.args.layout.now) (one_content _ _ found.pages pages (found.sized ∙ sym sized) (sym found.whole ∙ other)).1)
          whole,
    )

pub returns-in_default-restore-clause-fault : goal.returns-in_default-restore-clause-fault
returns-in_default-restore-clause-fault c = λ e.
    let same = c.in-Err.ensures.err in (
      (λ h. cc),
      λ both.
          let found = (c.in_default-restore.ensures.fault both.second).1 (subst (λ (l : LayoutValue). IsFlashFault l c.args.other.now c.args.file.now both.second) (sym same) both.of_other) in
          absurd cc,
    )

pub returns-clause-fault : goal.returns-clause-fault
returns-clause-fault c = λ e.
    let l = c.args.layout.now in
    let file = c.args.file.now in
    let same = c.in-Err.ensures.err in
    let first = c.in-Err.first in
    let second = c.in-Err-restore.second in
    let is_first : IsFlashFault l c.args.layout_digest.now file first = (c.in-Err.ensures.fault first).0 refl in
    let is_second : IsFlashFault l c.args.other.now file second = subst (λ (x : LayoutValue). IsFlashFault x c.args.other.now file second) same ((c.in-Err-restore.ensures.fault second).0 refl) in (
      (λ h. record { first = first; second = second; of_first = is_first; of_other = is_second; told = cc }),
      λ both.
          let one = one_fault l _ file first both.first c.told-layout_digest is_first both.of_first in
          let two = one_fault l _ file second both.second c.told-other is_second both.of_other in
          ap (λ (x : FlashError). Err x) (c.told_of.ensures ∙ ap (λ (x : FlashError). fault_to_tell x second) one ∙ ap (λ (x : FlashError). fault_to_tell both.first x) two ∙ sym both.told),
    )
