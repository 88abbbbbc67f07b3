use Rattle.std.proofs.Common.{◌+◌, ◌∙◌, ap, sym, map}
use Rattle.std.proofs.lemmas.Result.{err_from_is_err_and}
use Rattle.xcp_packet.specs.Rows.{first_holding}
use Rattle.xcp_memory.specs.Limits.{apart_limit}
use Rattle.xcp_memory.proofs.ApartLemmas.{area_kept, area_broken, slice_rest}
use Rattle.xcp_memory.proofs.areas.check_apart.Goals as goal

pub returns-in_err-check_against-clause-refused : goal.returns-in_err-check_against-clause-refused
returns-in_err-check_against-clause-refused c =
    let p = err_from_is_err_and c.from_residual.result c.from_residual.ensures.1 in
    let x = c.index-areas-i.result in
    let behind = ap (λ ys. first_holding (map (apart_limit x) ys)) (sym (slice_rest c.args.areas.now (c.loop-i.i + 1))) in
    rw (p.1, p.2) (c.loop-i.invariant ∙ area_broken c.args.areas.now c.loop-i.i x _ c.loop-i-test.true c.index-areas-i.is (behind ∙ c.in_err-check_against.ensures.refused))

pub loop-i-preserved : goal.loop-i-preserved
loop-i-preserved c =
    let x = c.index-areas-i.result in
    let behind = ap (λ ys. first_holding (map (apart_limit x) ys)) (sym (slice_rest c.args.areas.now (c.loop-i.i + 1))) in
    c.loop-i.invariant ∙ area_kept c.args.areas.now c.loop-i.i x c.loop-i-test.true c.index-areas-i.is (behind ∙ c.in_ok-check_against.ensures.ok)
