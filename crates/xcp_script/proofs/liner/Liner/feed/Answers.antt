use Rattle.std.proofs.Common.{◌∷◌, ◌+◌, take, drop}
use Rattle.xcp_script.proofs.LineFeedLemmas.{began_before, lies_in_piece}
use Rattle.xcp_script.proofs.liner.Liner.feed.Goals as goal

pub returns-then-not-keep-2 : goal.returns-then-not-keep-2
returns-then-not-keep-2 c = record {
  last = take c.in-Some.end c.args.piece.now;
  behind = 10 ∷ drop (c.in-Some.end + 1) c.args.piece.now;
  joined = c.in-Some.ensures.1;
  no_feed = c.in-Some.ensures.0;
  long = c.if-not-keep-2.ensures;
}

pub returns-then-is_empty : goal.returns-then-is_empty
returns-then-is_empty c = (c.in-Some.ensures.0, c.in-Some.ensures.1, c.in-Some.ensures.2, lies_in_piece c.args.self.now.held.items _ c.if-is_empty.ensures)

pub returns : goal.returns
returns c = (c.in-Some.ensures.0, c.in-Some.ensures.1, c.in-Some.ensures.2, rw (c.if-not-keep-2.ensures) (began_before c.args.self.now.held.items _ c.if-is_empty.ensures))
