use Rattle.std.proofs.Common.{◌≤◌, ◌∙◌, ℕ, List, length, take, sym, refl, arith, length-take}
use Rattle.std.proofs.lemmas.Bool.{false≢true}
use Rattle.xcp_framing.proofs.ExchangeLemmas.{passed_on}
use Rattle.xcp_framing.proofs.StreamLemmas.{nothing_held, reader_goes_on, ends_for}
use Rattle.xcp_framing.proofs.ReadSizeLemmas.{no_read, one_read_more}
use Rattle.xcp_framing.specs.Serve.{IsReadOf}
use Rattle.xcp_framing.proofs.AnsweredStreamLemmas.{along_start, along_more, streams_read, streams_all, streams_truncated, streams_part, streams_held}
use Rattle.xcp_framing.proofs.passage.answer_stream.Goals as goal

pub loop-turn-init : goal.loop-turn-init
loop-turn-init g c =
    record {
      along = rw (c.new-framer.ensures) (along_start g.A.Answerer.answers c.requires.packets.none _ _ _);
      rests = c.requires.rests;
      size = refl;
      limit = rw (c.new-framer.ensures) refl;
      bound = omega (arith, c.requires.sent);
      few = omega arith;
      calls = omega arith;
      failures = refl;
      reads = no_read (IsReadOf _) _;
    }

pub returns-in_default-clause-streams : goal.returns-in_default-clause-streams
returns-in_default-clause-streams g c = streams_read g.A.Answerer.answers _ _ _ _ _ _ _ c.loop-turn.invariant.along c.in_default.ensures.bytes c.in_default.ensures.gives

pub returns-then-inside-clause-streams : goal.returns-then-inside-clause-streams
returns-then-inside-clause-streams g c =
    let read = rw (c.if-length-eq0.true) at c.in-Ok.ensures.bytes.0 in
    let gave = rw (c.if-length-eq0.true) at c.in-Ok.ensures.gives in
    streams_truncated g.A.Answerer.answers _ _ _ _ _ _ _ c.loop-turn.invariant.along read gave (c.inside.ensures.0 c.if-inside.true)

pub returns-then-length-eq0-clause-streams : goal.returns-then-length-eq0-clause-streams
returns-then-length-eq0-clause-streams g c =
    let read = rw (c.if-length-eq0.true) at c.in-Ok.ensures.bytes.0 in
    let gave = rw (c.if-length-eq0.true) at c.in-Ok.ensures.gives in
    streams_all g.A.Answerer.answers _ _ _ _ _ _ _ _ c.loop-turn.invariant.along read gave (nothing_held _ (λ some. false≢true (sym c.if-inside.false ∙ c.inside.ensures.1 some)))

pub returns-in_err-hand_on-clause-streams : goal.returns-in_err-hand_on-clause-streams
returns-in_err-hand_on-clause-streams g c =
    let e = c.in_err-hand_on.field-0.0 in
    let answered = rw (c.loop-turn.invariant.limit) at c.answer_piece-answered.ensures.answered in
    let held = c.requires.handing_on.held _ e _ _ _ _ _ answered c.in_err-hand_on.ensures.hands in
    rw (passed_on c.from_residual.result e c.from_residual.ensures.1)
    (streams_held g.A.Answerer.answers c.requires.packets.more _ e _ _ _ _ _ _ _ _ c.in_err-hand_on.ensures.stops c.loop-turn.invariant.along c.in-Ok.ensures.bytes.0 c.in-Ok.ensures.gives held)

pub returns-in_err-answered-clause-streams : goal.returns-in_err-answered-clause-streams
returns-in_err-answered-clause-streams g c =
    let e = c.in_err-answered.field-0.0 in
    let answered = rw (c.loop-turn.invariant.limit) at c.in_err-answered.ensures.answered in
    let handed = c.requires.handing_on.handed _ _ _ _ _ _ answered c.in_ok-hand_on.ensures.hands in
    let chunk : List ℕ = take c.in-Ok.length c.read_next.new.buffer in
    let ends = ends_for (Unit {0}) _ _ e c.answer_piece-answered.new.framer.held c.loop-turn.framer.held chunk chunk c.loop-turn.invariant.limit refl c.in_err-answered.ensures.ends in
    rw (passed_on c.from_residual-in_err-answered.result e c.from_residual-in_err-answered.ensures.1)
    (streams_part g.A.Answerer.answers c.requires.packets.more (Unit {0}) _ e _ _ _ _ _ _ _ _ _ c.loop-turn.invariant.along c.in-Ok.ensures.bytes.0 c.in-Ok.ensures.gives handed ends)

pub returns-in_err-answered-clause-ends : goal.returns-in_err-answered-clause-ends
returns-in_err-answered-clause-ends g c =
    rw (passed_on c.from_residual-in_err-answered.result c.in_err-answered.field-0.0 c.from_residual-in_err-answered.ensures.1)
    (reader_goes_on (Unit {0}) _ _ _ _ _ c.in_err-answered.ensures.ends)

pub loop-turn-preserved : goal.loop-turn-preserved
loop-turn-preserved g c =
    let answered = rw (c.loop-turn.invariant.limit) at c.in_ok-answered.ensures.answered in
    let handed = c.requires.handing_on.handed _ _ _ _ _ _ answered c.in_ok-hand_on.ensures.hands in
    let ends = rw (c.loop-turn.invariant.limit) at c.in_ok-answered.ensures.ends in
    let count = rw (c.loop-turn.invariant.limit) at c.in_ok-answered.ensures.counts in
    let piece : length (take c.in-Ok.length c.read_next.new.buffer) ≤ 4096 = omega (arith, c.in-Ok.ensures.bound.0, length-take c.in-Ok.length c.read_next.new.buffer, c.read_next.auto.buffer, c.loop-turn.invariant.size, c.requires.most) in
    record {
      along = along_more g.A.Answerer.answers c.requires.packets.more _ _ _ _ _ _ _ _ _ _ c.loop-turn.invariant.along c.in-Ok.ensures.bytes.0 c.in-Ok.ensures.gives handed ends.0 ends.1 count;
      rests = c.hand_on.ensures.rests;
      size = c.read_next.auto.buffer ∙ c.loop-turn.invariant.size;
      limit = c.in_ok-answered.ensures.kept ∙ c.loop-turn.invariant.limit;
      bound = omega (arith, c.hand_on.ensures.sent, c.in_ok-answered.ensures.bound, c.loop-turn.invariant.bound, piece);
      few = omega (arith, c.in_ok-answered.ensures.few, c.loop-turn.invariant.few, piece);
      calls = omega (arith, c.in-Ok.ensures.counted.calls, c.loop-turn.invariant.calls);
      failures = c.in-Ok.ensures.counted.failures ∙ c.loop-turn.invariant.failures;
      reads = one_read_more (IsReadOf _) _ _ _ _ c.loop-turn.invariant.reads c.in-Ok.ensures.asked c.loop-turn.invariant.size;
    }

pub returns-in_default-clause-sizes : goal.returns-in_default-clause-sizes
returns-in_default-clause-sizes g c = one_read_more (IsReadOf _) _ _ _ _ c.loop-turn.invariant.reads c.in_default.ensures.asked c.loop-turn.invariant.size

pub returns-then-inside-clause-sizes : goal.returns-then-inside-clause-sizes
returns-then-inside-clause-sizes g c = one_read_more (IsReadOf _) _ _ _ _ c.loop-turn.invariant.reads c.in-Ok.ensures.asked c.loop-turn.invariant.size

pub returns-then-length-eq0-clause-sizes : goal.returns-then-length-eq0-clause-sizes
returns-then-length-eq0-clause-sizes g c = one_read_more (IsReadOf _) _ _ _ _ c.loop-turn.invariant.reads c.in-Ok.ensures.asked c.loop-turn.invariant.size

pub returns-in_err-hand_on-clause-sizes : goal.returns-in_err-hand_on-clause-sizes
returns-in_err-hand_on-clause-sizes g c = one_read_more (IsReadOf _) _ _ _ _ c.loop-turn.invariant.reads c.in-Ok.ensures.asked c.loop-turn.invariant.size

pub returns-in_err-answered-clause-sizes : goal.returns-in_err-answered-clause-sizes
returns-in_err-answered-clause-sizes g c = one_read_more (IsReadOf _) _ _ _ _ c.loop-turn.invariant.reads c.in-Ok.ensures.asked c.loop-turn.invariant.size
