use Rattle.std.proofs.Common.{ap, ◌∙◌, ◌≡◌, ◌*◌, ◌+◌, ◌≤◌, length, arith}
use Rattle.xcp_memory.specs.private.PageStore.{pages_in}
use Rattle.xcp_memory.specs.ComputedAccess.{overwritten}
use Rattle.xcp_memory.proofs.PageLemmas.{length-overwritten, refilled}
use Rattle.xcp_memory.proofs.PageStoreLemmas.{stored_by, stored_room, stored_size, stored_put, with_pages}
use Rattle.xcp_memory.proofs.page_set.PageSet.put.Goals as goal

pub overflow_mul-page : goal.overflow_mul-page
overflow_mul-page c =
    let stored = stored_by c.self.inside c.args.self.now c.self.view_is c.self.invariant in
    omega (arith, stored_room c.args.page stored c.requires.page)

pub overflow_add-page : goal.overflow_add-page
overflow_add-page c =
    let stored = stored_by c.self.inside c.args.self.now c.self.view_is c.self.invariant in
    omega (arith, stored_room c.args.page stored c.requires.page, stored_size c.args.page stored c.requires.page, c.requires.room)

pub overwrite-requires : goal.overwrite-requires
overwrite-requires c =
    let stored = stored_by c.self.inside c.args.self.now c.self.view_is c.self.invariant in
    omega (arith, stored_room c.args.page stored c.requires.page, stored_size c.args.page stored c.requires.page, c.requires.room, ap length c.deref_mut.ensures.value)

pub returns : goal.returns
returns c =
    let i = c.self.inside in
    let a = c.args in
    let stored = stored_by i a.self.now c.self.view_is c.self.invariant in
    let at = a.page * i.size + a.place in
    let new : c.overwrite.new.xs ≡ overwritten i.bytes.items at a.bytes.now = c.overwrite.ensures ∙ ap (λ xs. overwritten xs at a.bytes.now) c.deref_mut.ensures.value in
    let room : at + length a.bytes.now ≤ length i.bytes.items = omega (arith, stored_room a.page stored c.requires.page, stored_size a.page stored c.requires.page, c.requires.room) in
    let long = ap length new ∙ length-overwritten i.bytes.items a.bytes.now at room in
    let whole = refilled i.bytes.len c.overwrite.new.xs i.bytes.items i.bytes.ok.0 long ∙ new in
    with_pages _ _ _ _ c.self.view_is (ap (pages_in i.count i.size) whole ∙ stored_put a.page a.place a.bytes.now stored c.requires.page c.requires.room)
