use Rattle.std.proofs.Common.{◌≡◌, None, arith}
use Rattle.xcp_c.specs.DataOpenings.{TellsDataPages}
use Rattle.xcp_c.specs.Openings.{TellsPages}
use Rattle.xcp_c.proofs.DataLemmas.{fault_tells_pages, no_other, pages_tell}
use Rattle.xcp_c.proofs.OpeningLemmas.{each, tells_fault, tells_held}
use Rattle.xcp_c.proofs.by_data.open_stored.Goals as goal

pub returns-in-Err-clause-tells : goal.returns-in-Err-clause-tells
returns-in-Err-clause-tells c = fault_tells_pages c.args.text.now c.args.sizes.now c.args.bytes.now c.args.file.now c.in-Err.fault (c.in-Err.ensures {u = tt}).fault

pub returns-in-Err-restore_pages-clause-tells : goal.returns-in-Err-restore_pages-clause-tells
returns-in-Err-restore_pages-clause-tells c =
    let text = c.args.text.now in
    let file = c.args.file.now in
    let l = c.in-Ok.layout in
    let n = c.in-Err-restore_pages.fault in
    let here = tells_fault text file l c.restore_pages.new.layout c.restore_pages.result c.restore_pages.ensures.whole c.restore_pages.ensures.told n None c.in-Err-restore_pages.is in
    pages_tell text c.args.sizes.now c.args.bytes.now file n None l (c.in-Ok.ensures {u = tt}).layout (no_other l text file n (c.in-Err-restore_pages.ensures {u = tt}).fault) here

pub returns-in-Ok-restore_pages-clause-tells : goal.returns-in-Ok-restore_pages-clause-tells
returns-in-Ok-restore_pages-clause-tells c =
    let text = c.args.text.now in
    let sizes = c.args.sizes.now in
    let bytes = c.args.bytes.now in
    let file = c.args.file.now in
    let l = c.in-Ok.layout in
    let has = (c.in-Ok.ensures {u = tt}).layout in
    let decided = c.in-Ok-restore_pages.decided in
    let here = tells_held text file l c.restore_pages.new.layout c.restore_pages.result c.restore_pages.ensures.whole c.restore_pages.ensures.told (λ h. h.value) decided c.hold.result c.in-Ok-restore_pages.is (c.in-Ok-restore_pages.ensures {u = tt}).decided c.hold.ensures.opened c.hold.ensures.fault in
    each (λ h. TellsPages l text file 0 h.value) (λ h. TellsDataPages text sizes bytes file 0 h.value) (λ n. n ≡ 7) (λ n. TellsPages l text file n None) (λ n. TellsDataPages text sizes bytes file n None) c.hold.result
    (λ h tells. pages_tell text sizes bytes file 0 h.value l has (λ is. omega arith) tells)
    (λ n is tells. pages_tell text sizes bytes file n None l has (λ also. omega arith) tells)
    c.hold.ensures.fault here
