use Rattle.std.proofs.Common.{◌∙◌, refl, sym, subst, inl, inr}
use Rattle.xcp_framing.specs.CountedCalls.{StreamPlace, stream_place}
use Rattle.xcp_connection.specs.Hearing.{Hears}
use Rattle.xcp_connection.specs.private.HeardSoFar.{AllHeard}
use Rattle.xcp_connection.proofs.HeardSoFarLemmas.{heard_further, heard_more, heard_none, no_failed_read}
use Rattle.xcp_connection.proofs.hearing.hear.Goals as goal

pub loop-passage-init : goal.loop-passage-init
loop-passage-init g c = record {
  heard = heard_none c.args.max_cto _ _ _;
  fine = refl;
  first = inr (refl, refl, refl);
  stays = g.met.S.Station.same_refl c.args.station.now;
  outlet = refl;
  side = refl;
}

pub returns-then-is_err-clause-hears : goal.returns-then-is_err-clause-hears
returns-then-is_err-clause-hears g c = heard_further c.args.max_cto _ _ _ _ _ _ _ _ _ _ c.loop-passage.invariant.heard c.hear_passage-outcome.ensures.passage.serves

pub returns-then-not-begin_again-clause-hears : goal.returns-then-not-begin_again-clause-hears
returns-then-not-begin_again-clause-hears g c =
    let from = stream_place g.I.Read.remaining c.args.reader.now in
    let put = c.hear_passage-outcome.new.replies.end.put in
    let station = g.S.Station.exchanges c.hear_passage-outcome.new.station in
    subst (λ (p : StreamPlace). Hears c.args.max_cto c.hear_passage-outcome.result from p (g.S.Station.exchanges c.args.station.now) station c.args.replies.now.end.put put) (sym c.begin_again.ensures.place)
    (heard_further c.args.max_cto _ _ _ _ _ _ _ _ _ _ c.loop-passage.invariant.heard c.hear_passage-outcome.ensures.passage.serves)

pub loop-passage-preserved : goal.loop-passage-preserved
loop-passage-preserved g c =
    let was = c.loop-passage.invariant in
    let done = c.hear_passage-outcome in
    let fine = sym c.is_err.ensures.value ∙ c.if-is_err.false in
    let from = stream_place g.I.Read.remaining c.args.reader.now in
    record {
      heard = subst (λ (p : StreamPlace). AllHeard c.args.max_cto from p (g.S.Station.exchanges c.args.station.now) (g.S.Station.exchanges done.new.station) c.args.replies.now.end.put done.new.replies.end.put) (sym c.begin_again.ensures.place)
          (heard_more c.args.max_cto _ _ _ _ _ _ _ _ _ _ fine was.heard done.ensures.passage.serves);
      fine = c.begin_again.ensures.calls.1 ∙ (done.ensures.passage.reads.fine (no_failed_read _ fine) ∙ was.fine);
      first = inl (c.begin_again.ensures.more c.if-not-begin_again.false);
      stays = g.met.S.Station.same_trans c.args.station.now c.loop-passage.station done.new.station was.stays done.ensures.stays;
      outlet = done.ensures.outlet ∙ was.outlet;
      side = done.ensures.side ∙ was.side;
    }
