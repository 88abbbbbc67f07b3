use Rattle.std.proofs.Common.{◌≡◌}
use Rattle.xcp_c.proofs.OpeningLemmas.{fault_at}
use Rattle.xcp_c.proofs.opening.restore_pages.Goals as goal

pub returns-in-Err-clause-told : goal.returns-in-Err-clause-told
returns-in-Err-clause-told c = λ e fault.
    let found = fault_at c.args.text.now c.args.file.now c.pages_digest-decided.result c.digest.result c.args.layout.now c.restore_either.result c.pages_digest-decided.ensures c.digest.ensures c.restore_either.ensures.fault e fault in
    let is = c.in-Err.is in
    let one : c.in-Err.fault ≡ e = cc in
    let told = c.number_of.ensures in
    cc

pub returns-clause-told : goal.returns-clause-told
returns-clause-told c = λ e fault.
    let found = fault_at c.args.text.now c.args.file.now c.pages_digest-decided.result c.digest.result c.args.layout.now c.restore_either.result c.pages_digest-decided.ensures c.digest.ensures c.restore_either.ensures.fault e fault in
    let is = c.in_default.is in
    absurd cc
