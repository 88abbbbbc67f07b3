use Rattle.std.proofs.Common.{subst}
use Rattle.std.specs.Io.KnownBytes.{Appends}
use Rattle.xcp_framing.specs.Prefix.{AppendsFront}
use Rattle.xcp_record.specs.Recording.{StopsInside}
use Rattle.xcp_record.specs.private.Calls.{IsSealed}
use Rattle.xcp_record.proofs.RecordLemmas.{calls_short, on_err, records_more, stops_here, stops_inside}
use Rattle.xcp_record.proofs.recorder.Recorder.append.Goals as goal

pub returns-then-self-clause-front : goal.returns-then-self-clause-front
returns-then-self-clause-front g c = λ roster layout start chapters was. stops_here roster layout start _ _ _ _ chapters was

pub returns-then-number-self-clause-front : goal.returns-then-number-self-clause-front
returns-then-number-self-clause-front g c = λ roster layout start chapters was. stops_here roster layout start _ _ _ _ chapters was

pub returns-then-number-gt-LAST_CHAPTER-clause-front : goal.returns-then-number-gt-LAST_CHAPTER-clause-front
returns-then-number-gt-LAST_CHAPTER-clause-front g c = λ roster layout start chapters was. stops_here roster layout start _ _ _ _ chapters was

pub returns-in_err-seal-clause-front : goal.returns-in_err-seal-clause-front
returns-in_err-seal-clause-front g c = λ roster layout start chapters was.
    on_err c.from_residual.result (StopsInside roster layout start (g.W.Write.contents c.args.self.now.writer.inner) chapters) (stops_here roster layout start _ _ _ _ chapters was)

pub seal-requires-clause-short : goal.seal-requires-clause-short
seal-requires-clause-short g c = calls_short c.bytes.result.now c.args.entries c.bytes.ensures c.requires

pub returns-in_err-write_all-clause-front : goal.returns-in_err-write_all-clause-front
returns-in_err-write_all-clause-front g c = λ roster layout start chapters was.
    let old = g.W.Write.contents c.args.self.now.writer.inner in
    let now = g.W.Write.contents c.write_all.new.self.inner in
    let count = c.len-count.result in
    let spelled = c.bytes.result.now in
    let chapter = c.seal.new.chapter.items in
    let sealed = subst (λ k. IsSealed k count was.bytes spelled chapter c.seal.new.hasher) c.if-number-self.false (c.in_ok-seal.ensures was.bytes was.held) in
    on_err c.from_residual-in_err-write_all.result (StopsInside roster layout start now chapters)
    (stops_inside roster layout start old now c.args.self.now.hasher c.seal.new.hasher c.args.self.now.chapters count c.args.self.now.calls spelled chapter chapters c.args.entries was sealed c.bytes.ensures c.len-count.ensures
    (subst (AppendsFront old now) c.deref.ensures.value (c.in_err-write_all.ensures {u = tt}).front))

pub returns-clause-records : goal.returns-clause-records
returns-clause-records g c = λ roster layout start chapters was.
    let old = g.W.Write.contents c.args.self.now.writer.inner in
    let now = g.W.Write.contents c.write_all.new.self.inner in
    let count = c.len-count.result in
    let spelled = c.bytes.result.now in
    let chapter = c.seal.new.chapter.items in
    let sealed = subst (λ k. IsSealed k count was.bytes spelled chapter c.seal.new.hasher) c.if-number-self.false (c.in_ok-seal.ensures was.bytes was.held) in
    records_more roster layout start old now c.args.self.now.hasher c.seal.new.hasher c.args.self.now.chapters count c.args.self.now.calls spelled chapter chapters c.args.entries was sealed c.bytes.ensures c.len-count.ensures c.requires
    (subst (Appends old now) c.deref.ensures.value c.in_ok-write_all.ensures.ok)
