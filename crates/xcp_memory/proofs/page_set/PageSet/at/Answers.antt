use Rattle.std.proofs.Common.{ap, ◌∙◌, ◌*◌, length, take, drop, arith}
use Rattle.xcp_memory.proofs.PageStoreLemmas.{stored_by, stored_room, stored_page}
use Rattle.xcp_memory.proofs.page_set.PageSet.at.Goals as goal

pub overflow_mul-page : goal.overflow_mul-page
overflow_mul-page c =
    let stored = stored_by c.self.inside c.args.self.now c.self.view_is c.self.invariant in
    omega (arith, stored_room c.args.page stored c.requires, c.deref.ensures.len)

pub cut-requires : goal.cut-requires
cut-requires c =
    let stored = stored_by c.self.inside c.args.self.now c.self.view_is c.self.invariant in
    omega (arith, stored_room c.args.page stored c.requires, ap length c.deref.ensures.value)

pub returns : goal.returns
returns c =
    let i = c.self.inside in
    let stored = stored_by i c.args.self.now c.self.view_is c.self.invariant in
    c.cut.ensures.value ∙ ap (λ xs. take i.size (drop (c.args.page * i.size) xs)) c.deref.ensures.value ∙ stored_page c.args.page stored c.requires
