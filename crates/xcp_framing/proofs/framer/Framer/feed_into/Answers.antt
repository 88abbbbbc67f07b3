use Rattle.std.proofs.Common.{◌≡◌, ◌≤◌, ◌-◌, ◌∙◌, arith, length, length-drop, length-take, drop, take}
use Rattle.std.proofs.lemmas.List.{take_all}
use Rattle.xcp_framing.proofs.PartialFrameLemmas.{feeds_more}
use Rattle.xcp_framing.proofs.framer.Framer.feed_into.Goals as goal

pub loop-cut-smaller : goal.loop-cut-smaller
loop-cut-smaller c =
    let s = c.args.piece.now in
    let i = c.loop-cut.cut.used in
    let within : i ≤ length s = c.loop-cut.invariant.feeds.front in
    let left : length (take (length s - i) (drop i s)) ≡ length s - i = omega (arith, length-take (length s - i) (drop i s), length-drop i s) in
    let some = c.gather-next.ensures.moves (c.loop-cut.invariant.more c.in-More.is) (omega (arith, left, within, c.if-cut-piece.false)) in
    let next = c.gather-next.ensures.feeds.front in
    omega (arith, left, some, next, within)

pub loop-cut-preserved : goal.loop-cut-preserved
loop-cut-preserved c =
    let s = c.args.piece.now in
    let i = c.loop-cut.cut.used in
    let t = take (length s - i) (drop i s) in
    let all : t ≡ drop i s = take_all (length s - i) (drop i s) (omega (arith, length-drop i s)) in
    let before = rw (c.in-More.is) at c.loop-cut.invariant.feeds in
    let next = rw (c.loop-cut.invariant.kept) at c.gather-next.ensures.feeds in
    record {
      feeds = feeds_more _ i _ _ s _ t before all next;
      more = c.gather-next.ensures.more;
      bad = c.gather-next.ensures.bad;
      moves = λ some. omega (arith, c.gather-next.ensures.packet_moves some);
      kept = c.gather-next.ensures.kept ∙ c.loop-cut.invariant.kept;
    }
