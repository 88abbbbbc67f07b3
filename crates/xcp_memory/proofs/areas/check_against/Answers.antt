use Rattle.std.proofs.Common.{◌∙◌, ap, sym, Some}
use Rattle.std.proofs.lemmas.Result.{err_from_is_err_and}
use Rattle.xcp_memory.proofs.ApartLemmas.{pair_kept, pair_broken}
use Rattle.xcp_memory.proofs.areas.check_against.Goals as goal

pub returns-in_err-check_pair-clause-refused : goal.returns-in_err-check_pair-clause-refused
returns-in_err-check_pair-clause-refused c =
    let p = err_from_is_err_and c.from_residual.result c.from_residual.ensures.1 in
    let r = c.in_err-check_pair.ensures.refused in
    rw (p.1, p.2) (c.loop-other.invariant ∙ pair_broken c.args.first.now c.args.others.now c.loop-other.other-index c.other-item.result c.loop-other-test.true c.other-item.is r.0 ∙ ap Some (sym r.1))

pub loop-other-preserved : goal.loop-other-preserved
loop-other-preserved c =
    c.loop-other.invariant ∙ pair_kept c.args.first.now c.args.others.now c.loop-other.other-index c.other-item.result c.loop-other-test.true c.other-item.is c.in_ok-check_pair.ensures.ok
