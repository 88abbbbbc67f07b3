use Rattle.std.proofs.Common.{arith, ◌∙◌}
use Rattle.xcp_memory.proofs.OpeningPageLemmas.{opened_more, opened_all}
use Rattle.xcp_memory.proofs.pages.Pages.new.Goals as goal

pub loop-i-init : goal.loop-i-init
loop-i-init c = c.in_ok-segments.ensures.items

pub loop-i-preserved : goal.loop-i-preserved
loop-i-preserved c =
    c.in_ok-push.ensures.items ∙ opened_more c.args.layout.segments c.loop-i.i c.segment_pages.result c.segment_bytes.result.now c.loop-i.segments.items c.in_ok-pages.pages (omega arith) c.segment_bytes.ensures.value c.segment_pages.ensures.value c.loop-i.invariant c.in_ok-pages.ensures

pub invariant_of-result : goal.invariant_of-result
invariant_of-result c = opened_all c.args.layout c.loop-i.i c.loop-i.segments.items c.in_ok-signals.signals.items c.known.ensures (omega arith) c.loop-i.invariant (omega (arith, c.in_ok-signals.ensures.len, c.in_ok-signals.signals.ok.0, c.signals_length.ensures.value))
