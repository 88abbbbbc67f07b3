use Rattle.std.proofs.Common.{◌≡◌, ◌≤◌, ◌+◌, ◌-◌, true, drop, length, take, sym, ap, ◌∙◌, arith}
use Rattle.std.proofs.lemmas.Bool.Decides.{nat_tests}
use Rattle.xcp_framing.specs.Wire.{IsUnfinished, len_of}
use Rattle.xcp_framing.specs.Frames.{rest}
use Rattle.xcp_framing.proofs.PartialFrameLemmas.{held_unfinished}
use Rattle.xcp_framing.proofs.WholeFrameLaws.{no_some}
use Rattle.xcp_datagrams.specs.Datagrams.{fits}
use Rattle.xcp_datagrams.proofs.FrontLemmas.{front_to, head_step, slice_all}
use Rattle.xcp_datagrams.proofs.cutting.whole_front.Goals as goal

pub loop-size-preserved : goal.loop-size-preserved
loop-size-preserved c =
    let s = c.args.datagram.now in
    let at = c.loop-size.at in
    let all = slice_all at s in
    let step = head_step c.args.max_cto at c.in-Some.size s (rw all at c.in-Some.ensures.size) (rw all at c.in-Some.ensures.allowed) (rw all at c.in-Some.ensures.whole) in
    record { within = step.2; behind = c.loop-size.invariant.behind ∙ step.1 }

pub returns-clause-left : goal.returns-clause-left
returns-clause-left c =
    let s = c.args.datagram.now in
    let at = c.loop-size.at in
    let v : IsUnfinished c.args.max_cto (take (length s - at) (drop at s)) = no_some _ c.head.ensures.none c.in_default.not-Some in
    let u : IsUnfinished c.args.max_cto (drop at s) = rw (slice_all at s) at v in
    (held_unfinished c.args.max_cto (drop at s) u).1 ∙ sym c.loop-size.invariant.behind

pub returns-clause-front : goal.returns-clause-front
returns-clause-front c =
    let s = c.args.datagram.now in
    let fitting : fits s ≡ true = grind (arith, nat_tests, c.if-is_empty.false, c.if-datagram-gt-LONGEST.false, c.is_empty.ensures) in
    rw fitting (front_to c.args.max_cto c.loop-size.at s c.loop-size.invariant.within (sym (returns-clause-left c)))
