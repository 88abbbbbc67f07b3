use Rattle.std.proofs.Common.{subst}
use Rattle.std.specs.Io.KnownBytes.{Appends}
use Rattle.xcp_record.specs.FileFormat.{no_chapter}
use Rattle.xcp_record.specs.private.Calls.{IsSealed}
use Rattle.xcp_record.proofs.RecordLemmas.{ends_in_order}
use Rattle.xcp_record.proofs.recorder.Recorder.end.Goals as goal

pub returns-then-not-self-clause-ends : goal.returns-then-not-self-clause-ends
returns-then-not-self-clause-ends g c = λ roster layout start chapters was.
    let old = g.W.Write.contents c.args.self.now.writer.inner in
    let now = g.W.Write.contents c.write_all.new.self.inner in
    let mark = c.seal.new.chapter.items in
    let sealed = subst (λ b. IsSealed no_chapter 0 was.bytes b mark c.seal.new.hasher) c.to_le_bytes-calls.ensures (c.in_ok-seal.ensures was.bytes was.held) in
    ends_in_order roster layout start old now c.args.self.now.hasher c.seal.new.hasher c.args.self.now.chapters c.args.self.now.calls mark chapters was sealed
    (subst (Appends old now) c.deref.ensures.value c.in_ok-write_all.ensures.ok)
