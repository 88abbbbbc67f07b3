use Rattle.std.proofs.Common.{◌≡◌, ◌-◌, ℕ, length, take, drop, ap, ◌∙◌, List, arith, length-drop, refl}
use Rattle.std.proofs.lemmas.List.{take_all}
use Rattle.xcp_framing.proofs.ExchangeLemmas.{passed_on}
use Rattle.xcp_framing.proofs.AnsweredStreamLemmas.{uses_none, uses_more, uses_all, uses_bad, uses_part}
use Rattle.xcp_framing.proofs.passage.answer_piece.Goals as goal

pub loop-length-init : goal.loop-length-init
loop-length-init g c = record {
  uses = uses_none g.A.Answerer.answers c.requires.packets.none _ _ _ _ _;
  within = omega arith;
  bound = omega arith;
  few = omega arith;
  kept = refl;
}

pub returns-in-BadLength-clause-answered : goal.returns-in-BadLength-clause-answered
returns-in-BadLength-clause-answered g c =
    let s = c.args.piece.now in
    let i = c.loop-length.used in
    let t = take (length s - i) (drop i s) in
    let all : t ≡ drop i s = take_all (length s - i) (drop i s) (omega (arith, length-drop i s)) in
    let fed = rw (c.in-BadLength.is, c.loop-length.invariant.kept) at c.feed_into-cut.ensures.feeds in
    let bad = rw (c.feed_into-cut.ensures.kept, c.loop-length.invariant.kept) at c.feed_into-cut.ensures.bad _ c.in-BadLength.is in
    (uses_bad g.A.Answerer.answers _ _ _ _ s t _ _ _ _ c.loop-length.invariant.uses all fed bad.0 bad.1).0

pub returns-in-BadLength-clause-ends : goal.returns-in-BadLength-clause-ends
returns-in-BadLength-clause-ends g c =
    let s = c.args.piece.now in
    let i = c.loop-length.used in
    let t = take (length s - i) (drop i s) in
    let all : t ≡ drop i s = take_all (length s - i) (drop i s) (omega (arith, length-drop i s)) in
    let fed = rw (c.in-BadLength.is, c.loop-length.invariant.kept) at c.feed_into-cut.ensures.feeds in
    let bad = rw (c.feed_into-cut.ensures.kept, c.loop-length.invariant.kept) at c.feed_into-cut.ensures.bad _ c.in-BadLength.is in
    let ends = uses_bad g.A.Answerer.answers _ _ _ _ s t _ _ _ _ c.loop-length.invariant.uses all fed bad.0 bad.1 in
    (ends.1, ends.2)

pub returns-in-More-clause-ends : goal.returns-in-More-clause-ends
returns-in-More-clause-ends g c =
    let s = c.args.piece.now in
    let i = c.loop-length.used in
    let t = take (length s - i) (drop i s) in
    let all : t ≡ drop i s = take_all (length s - i) (drop i s) (omega (arith, length-drop i s)) in
    let fed = rw (c.in-More.is, c.loop-length.invariant.kept) at c.feed_into-cut.ensures.feeds in
    let more = rw (c.feed_into-cut.ensures.kept, c.loop-length.invariant.kept) at c.feed_into-cut.ensures.more c.in-More.is in
    let behind = (uses_all g.A.Answerer.answers _ _ _ s t _ _ _ _ c.loop-length.invariant.uses all fed more.0).1 in
    (behind, rw behind at more.1)

pub loop-length-preserved : goal.loop-length-preserved
loop-length-preserved g c =
    let s = c.args.piece.now in
    let i = c.loop-length.used in
    let j = c.feed_into-cut.result.used in
    let t = take (length s - i) (drop i s) in
    let all : t ≡ drop i s = take_all (length s - i) (drop i s) (omega (arith, length-drop i s)) in
    let fed = rw (c.in-Packet.is, c.loop-length.invariant.kept) at c.feed_into-cut.ensures.feeds in
    let answered = c.in_ok-answer-in-Packet.ensures.answers in
    let some = c.feed_into-cut.ensures.moves c.in-Packet.is in
    let left : length t ≡ length s - i = ap (λ (z : List ℕ). length z) all ∙ length-drop i s in
    let limit = c.loop-length.invariant.within in
    let front = fed.front in
    record {
      uses = uses_more g.A.Answerer.answers c.requires.packets.more _ j _ s t _ _ _ _ _ _ c.loop-length.invariant.uses all fed answered;
      within = omega (arith, front, left, limit);
      bound = omega (arith, c.in_ok-answer-in-Packet.ensures.bound, c.loop-length.invariant.bound, some);
      few = omega (arith, c.loop-length.invariant.few, some);
      kept = c.feed_into-cut.ensures.kept ∙ c.loop-length.invariant.kept;
    }

pub returns-in_err-answer-in-Packet-clause-answered : goal.returns-in_err-answer-in-Packet-clause-answered
returns-in_err-answer-in-Packet-clause-answered g c =
    let s = c.args.piece.now in
    let i = c.loop-length.used in
    let t = take (length s - i) (drop i s) in
    let all : t ≡ drop i s = take_all (length s - i) (drop i s) (omega (arith, length-drop i s)) in
    let fed = rw (c.in-Packet.is, c.loop-length.invariant.kept) at c.feed_into-cut.ensures.feeds in
    rw (passed_on c.from_residual.result c.in_err-answer-in-Packet.field-0.0 c.from_residual.ensures.1)
    (uses_part g.A.Answerer.answers c.requires.packets.more c.requires.packets.before (Unit {0}) _ _ c.in_err-answer-in-Packet.field-0.0 _ s t _ _ _ _ _ _ c.in_err-answer-in-Packet.ensures.stops c.loop-length.invariant.uses all fed c.in_err-answer-in-Packet.ensures.answers)
