use Rattle.xcp_record.proofs.ExactLemmas.{settles_known}
use Rattle.xcp_record.proofs.auditing.audit.Goals as goal

pub returns-clause-settles : goal.returns-clause-settles
returns-clause-settles g c =
    let said = c.audit_chapters.ensures.audits in
    settles_known c.each_request_has_one_answer.ensures.single (g.R.Read.remaining c.args.reader.now.inner) (g.R.Read.remaining c.audit_chapters.new.reader.inner) said.2 c.args.layout.now said.0 c.args.slave c.audit_chapters.result c.told-layout said.1 said.3
