use Rattle.std.proofs.Common.{ℕ, List, inl, inr, subst}
use Rattle.xcp_flash.specs.Restoring.{IsFlashFault}
use Rattle.xcp_c.proofs.by_parts.open_with.Goals as goal

pub returns-in-Err-clause-fault : goal.returns-in-Err-clause-fault
returns-in-Err-clause-fault c = inl ((c.in-Err.ensures {u = tt}).fault)

pub returns-in-Err-restore-clause-fault : goal.returns-in-Err-restore-clause-fault
returns-in-Err-restore-clause-fault c =
    let l = c.in-Ok.layout in
    let e = c.in-Err-restore.fault in
    let fault = (c.restore.ensures.fault e).0 c.in-Err-restore.is in
    inr (l, (c.in-Ok.ensures {u = tt}).layout, e, subst (λ (d : List ℕ). IsFlashFault l d c.args.file.now e) c.pages_digest-digest.ensures fault, c.number_of.ensures)
