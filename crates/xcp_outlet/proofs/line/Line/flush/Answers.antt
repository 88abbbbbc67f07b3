use Rattle.std.proofs.Common.{rules, ◌≡◌, false, true≢false}
use Rattle.xcp_framing.specs.Prefix.{AppendsFront}
use Rattle.xcp_outlet.proofs.SendingLemmas.{broken, flushed, none_in_hand}
use Rattle.xcp_outlet.proofs.line.Line.flush.Goals as goal

pub returns-in-Err-clause-goes_on : goal.returns-in-Err-clause-goes_on
returns-in-Err-clause-goes_on g c before failures taken p =
    let well : c.args.self.now.broken ≡ false = search rules in
    let front : AppendsFront (g.W.Write.contents c.args.writer.now.inner) (g.W.Write.contents c.flush.new.writer.inner) c.args.self.now.frames.held = rw (c.in-Err.ensures.err.0) at c.in-Err.ensures.writes in
    broken c.args.self.now taken _ before (g.W.Write.contents c.args.writer.now.inner) (g.W.Write.contents c.flush.new.writer.inner) well front c.in-Err.ensures.err.1 p

pub returns-in-Ok-clause-goes_on : goal.returns-in-Ok-clause-goes_on
returns-in-Ok-clause-goes_on g c before failures taken p =
    let well : c.args.self.now.broken ≡ false = search rules in
    flushed c.args.self.now taken c.flush.new.self _ before (g.W.Write.contents c.args.writer.now.inner) (g.W.Write.contents c.flush.new.writer.inner) well c.flush.ensures.held c.flush.ensures.sent c.sent-self.ensures c.in-Ok.ensures.writes c.in-Ok.ensures.fine p

pub returns-in-Err-clause-written : goal.returns-in-Err-clause-written
returns-in-Err-clause-written g c before failures taken p = λ well. absurd (true≢false well)

pub returns-in-Ok-clause-written : goal.returns-in-Ok-clause-written
returns-in-Ok-clause-written g c before failures taken p =
    let well : c.args.self.now.broken ≡ false = search rules in
    none_in_hand _ _ _ _ (λ _. c.flush.ensures.held) (flushed c.args.self.now taken c.flush.new.self _ before (g.W.Write.contents c.args.writer.now.inner) (g.W.Write.contents c.flush.new.writer.inner) well c.flush.ensures.held c.flush.ensures.sent c.sent-self.ensures c.in-Ok.ensures.writes c.in-Ok.ensures.fine p)
