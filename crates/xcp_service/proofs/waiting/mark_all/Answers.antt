use Rattle.std.proofs.Common.{◌∙◌, ap, sym, slice_set}
use Rattle.std.proofs.lemmas.List.Edits.{map_over_more}
use Rattle.xcp_service.specs.private.Waiting.{WaitingValue, settled_mark}
use Rattle.xcp_service.proofs.waiting.mark_all.Goals as goal

pub loop-one-preserved : goal.loop-one-preserved
loop-one-preserved g c =
    let f = settled_mark c.args.caller c.args.until in
    let ws = c.loop-one.waiting in
    let k = c.loop-one.one-index in
    ap (λ (w : WaitingValue). slice_set ws k w) (c.mark.ensures ∙ sym (ap f c.one-item.is))
    ∙ map_over_more f c.args.waiting.now ws k c.one-item.result c.loop-one-test.true c.loop-one.invariant c.one-item.is
