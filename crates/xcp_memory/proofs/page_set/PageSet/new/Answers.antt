use Rattle.std.proofs.Common.{ap, ◌∙◌, ◌≡◌, length, false}
use Rattle.std.specs.List.{repeat, each_same}
use Rattle.xcp_memory.specs.Pages.{SegmentPages}
use Rattle.xcp_memory.specs.private.PageStore.{pages_in}
use Rattle.xcp_memory.proofs.PageStoreLemmas.{repeated}
use Rattle.xcp_memory.proofs.page_set.PageSet.new.Goals as goal

pub returns : goal.returns
returns c =
    let page = c.args.page.now in
    let bytes : c.in_ok-bytes.bytes.items ≡ repeat c.args.count page = each_same (repeat c.args.count page) c.in_ok-bytes.bytes.items c.in_ok-bytes.ensures.items in
    ap (λ ps. let r : SegmentPages = record { pages = ps; ecu = 0; xcp = 0; freeze = false } in r) (ap (pages_in c.args.count (length page)) bytes ∙ repeated c.args.count page)
