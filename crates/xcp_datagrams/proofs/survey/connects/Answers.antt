use Rattle.std.proofs.Common.{◌≡◌, ◌<◌, ◌≤◌, ◌+◌, ◌-◌, ◌++◌, List, ℕ, drop, length, take, sym, ap, ◌∙◌, arith}
use Rattle.std.proofs.lemmas.Bool.Decides.{nat_tests}
use Rattle.xcp_framing.specs.Wire.{IsUnfinished, len_of}
use Rattle.xcp_framing.specs.Frames.{frames}
use Rattle.xcp_framing.proofs.PartialFrameLemmas.{held_unfinished}
use Rattle.xcp_framing.proofs.WholeFrameLaws.{no_some}
use Rattle.xcp_datagrams.specs.Datagrams.{begins_with_connect, is_connect_packet}
use Rattle.xcp_datagrams.proofs.FrontLemmas.{head_step, packet_none, packet_slice, packet_there, slice_all}
use Rattle.xcp_datagrams.proofs.survey.connects.Goals as goal

pub returns-then-size-gt-HEADER_SIZE : goal.returns-then-size-gt-HEADER_SIZE
returns-then-size-gt-HEADER_SIZE c =
    let s = c.args.bytes.now in
    let at = c.loop-size.at in
    let k = c.in-Some.size in
    let m = c.args.max_cto in
    let all = slice_all at s in
    let there = rw all at c.in-Some.ensures.whole in
    let step = head_step m at k s (rw all at c.in-Some.ensures.size) (rw all at c.in-Some.ensures.allowed) there in
    let more : 4 < k = grind (arith, nat_tests, c.if-size-gt-HEADER_SIZE.true) in
    let first = ap (λ (ps : List (List ℕ)). ps ++ frames m (drop (at + k) s)) (packet_there k (drop at s) more there) in
    c.is_connect.ensures ∙ ap is_connect_packet (packet_slice at k s (omega (arith, more))) ∙ sym (ap begins_with_connect (c.loop-size.invariant.same ∙ step.0 ∙ first))

pub loop-size-preserved : goal.loop-size-preserved
loop-size-preserved c =
    let s = c.args.bytes.now in
    let at = c.loop-size.at in
    let k = c.in-Some.size in
    let m = c.args.max_cto in
    let all = slice_all at s in
    let size = rw all at c.in-Some.ensures.size in
    let there = rw all at c.in-Some.ensures.whole in
    let step = head_step m at k s size (rw all at c.in-Some.ensures.allowed) there in
    let most : k ≤ 4 = grind (arith, nat_tests, c.if-size-gt-HEADER_SIZE.false) in
    let none = ap (λ (ps : List (List ℕ)). ps ++ frames m (drop (at + k) s)) (packet_none k (drop at s) most (omega (arith, size)) there) in
    record { within = step.2; same = c.loop-size.invariant.same ∙ step.0 ∙ none }

pub returns : goal.returns
returns c =
    let s = c.args.bytes.now in
    let at = c.loop-size.at in
    let v : IsUnfinished c.args.max_cto (take (length s - at) (drop at s)) = no_some _ c.head.ensures.none c.in_default.not-Some in
    let u : IsUnfinished c.args.max_cto (drop at s) = rw (slice_all at s) at v in
    sym (ap begins_with_connect (c.loop-size.invariant.same ∙ (held_unfinished c.args.max_cto (drop at s) u).0))
