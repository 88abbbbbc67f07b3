use Rattle.std.proofs.Common.{[], ◌∷◌, ◌++◌, List, ap, sym, ◌∙◌, arith}
use Rattle.xcp_memory.specs.declared.key.Area.TheVariants as area
use Rattle.xcp_memory.specs.Layout.{Extent}
use Rattle.xcp_memory.specs.LayoutParts.{Placed, placed_segment}
use Rattle.xcp_memory.proofs.ApartLemmas.{placed_more}
use Rattle.xcp_memory.proofs.areas.areas_of.Goals as goal

pub loop-i-preserved : goal.loop-i-preserved
loop-i-preserved c = record {
  count = omega (arith, c.push.ensures.len, c.loop-i.invariant.count);
  items = c.push.ensures.items ∙ ap (λ (e : Extent). c.loop-i.areas.items ++ (let placed : Placed = record { area = area.Segment c.loop-i.i; extent = e } in placed) ∷ []) c.extent.ensures ∙ ap (λ (ps : List Placed). ps ++ placed_segment (c.loop-i.i, c.index-segments-i.result) ∷ []) c.loop-i.invariant.items ∙ sym (placed_more c.args.segments.now c.loop-i.i c.index-segments-i.result c.loop-i-test.true c.index-segments-i.is);
}
