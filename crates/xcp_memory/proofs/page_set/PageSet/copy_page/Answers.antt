use Rattle.std.proofs.Common.{ap, ◌∙◌, arith}
use Rattle.xcp_memory.specs.private.PageStore.{pages_in}
use Rattle.xcp_memory.proofs.PageStoreLemmas.{stored_by, stored_room, stored_copy, with_pages}
use Rattle.xcp_memory.proofs.page_set.PageSet.copy_page.Goals as goal

pub overflow_mul-start : goal.overflow_mul-start
overflow_mul-start c =
    let stored = stored_by c.self.inside c.args.self.now c.self.view_is c.self.invariant in
    omega (arith, stored_room c.args.source stored c.requires.source)

pub overflow_add-start : goal.overflow_add-start
overflow_add-start c =
    let stored = stored_by c.self.inside c.args.self.now c.self.view_is c.self.invariant in
    omega (arith, stored_room c.args.source stored c.requires.source)

pub overflow_mul-target : goal.overflow_mul-target
overflow_mul-target c =
    let stored = stored_by c.self.inside c.args.self.now c.self.view_is c.self.invariant in
    omega (arith, stored_room c.args.target stored c.requires.target)

pub copy_within-requires-clause-in_bounds : goal.copy_within-requires-clause-in_bounds
copy_within-requires-clause-in_bounds c =
    let stored = stored_by c.self.inside c.args.self.now c.self.view_is c.self.invariant in
    omega (arith, stored_room c.args.source stored c.requires.source)

pub copy_within-requires-clause-dest_in_bounds : goal.copy_within-requires-clause-dest_in_bounds
copy_within-requires-clause-dest_in_bounds c =
    let stored = stored_by c.self.inside c.args.self.now c.self.view_is c.self.invariant in
    omega (arith, stored_room c.args.target stored c.requires.target)

pub returns : goal.returns
returns c =
    let i = c.self.inside in
    let stored = stored_by i c.args.self.now c.self.view_is c.self.invariant in
    with_pages _ _ _ _ c.self.view_is (ap (pages_in i.count i.size) c.copy_within.ensures.items ∙ stored_copy c.args.source c.args.target stored c.requires.source c.requires.target)
