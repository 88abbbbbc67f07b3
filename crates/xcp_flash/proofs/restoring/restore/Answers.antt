use Rattle.std.proofs.Common.{◌≡◌, ap, refl, subst}
use Rattle.std.specs.Prelude.{Err}
use Rattle.xcp_flash.specs.declared.fault.FlashError.{FlashError}
use Rattle.xcp_flash.specs.Restoring.{IsFlashFault}
use Rattle.xcp_flash.proofs.FaultLemmas.{file_begins, is_file, no_fault, one_fault}
use Rattle.xcp_flash.proofs.restoring.restore.Goals as goal

pub returns-in-Ok-clause-ok : goal.returns-in-Ok-clause-ok
returns-in-Ok-clause-ok c =
    let w = (c.in-Ok.ensures {u = tt}).ok in
    record { pages = w.pages; sized = w.found.sized; whole = is_file _ _ _ _ w; restored = c.set_pages.ensures w.pages _ w.found }

pub returns-in-Ok-clause-whole : goal.returns-in-Ok-clause-whole
returns-in-Ok-clause-whole c = λ pages sized whole.
    let w = (c.in-Ok.ensures {u = tt}).ok in
    (refl, c.set_pages.ensures pages _ (file_begins _ c.args.layout_digest.now c.args.file.now c.in-Ok.pages.now pages w.whole sized whole))

pub returns-in-Ok-clause-fault : goal.returns-in-Ok-clause-fault
returns-in-Ok-clause-fault c = λ e.
    let w = (c.in-Ok.ensures {u = tt}).ok in
    ((λ h. cc), λ fault. absurd (no_fault c.args.layout.now c.args.layout_digest.now c.args.file.now w.pages e c.told-layout_digest w.found.sized (is_file _ _ _ _ w) fault))

pub returns-in-Err-clause-whole : goal.returns-in-Err-clause-whole
returns-in-Err-clause-whole c = λ pages sized whole.
    let fault = (c.in-Err.ensures {u = tt}).err in
    absurd (no_fault c.args.layout.now c.args.layout_digest.now c.args.file.now pages c.in-Err.fault c.told-layout_digest sized whole fault)

pub returns-in-Err-clause-fault : goal.returns-in-Err-clause-fault
returns-in-Err-clause-fault c = λ e.
    let l = c.args.layout.now in
    let d = c.args.layout_digest.now in
    let file = c.args.file.now in
    let fault = (c.in-Err.ensures {u = tt}).err in (
      (λ h. let same : c.in-Err.fault ≡ e = cc in subst (λ (x : FlashError). IsFlashFault l d file x) same fault),
      λ other. ap (λ (x : FlashError). Err x) (one_fault l d file c.in-Err.fault e c.told-layout_digest fault other),
    )
