use Rattle.std.proofs.Common.{◌≡◌, rules, inr, sym, ap, ◌∙◌}
use Rattle.std.specs.Prelude.{Some, None}
use Rattle.xcp_audit.specs.declared.printer.Trouble.TheVariants.{Memory, Write}
use Rattle.xcp_audit.specs.Printing.{stand_of}
use Rattle.xcp_audit.specs.PrintedAudit.{answer_after}
use Rattle.xcp_audit.proofs.PrintedAuditLemmas.{prints_audit}
use Rattle.xcp_audit.proofs.printing.print_audit.Goals as goal

pub returns-in-Some-Write : goal.returns-in-Some-Write
returns-in-Some-Write g c =
    let said = c.audited-said in
    let trouble : c.print_end.new.printer.trouble ≡ Some Write = search rules in
    record {
      ends = inr (prints_audit c.args.config.now c.args.head.now c.digest_for-digest.result c.args.layout c.in-Ok.slave _ _ c.args.lines (stand_of g.W.Write.contents c.args.printer.now) (stand_of g.W.Write.contents said.new.printer) (stand_of g.W.Write.contents c.print_end.new.printer) said.result _
          c.requires.head c.digest_for-digest.ensures c.in-Ok.ensures said.ensures.audits said.ensures.settles (record { failed = said.ensures.failed; unfailed = said.ensures.unfailed }) c.print_end.ensures (sym (ap (λ t. answer_after t said.result) trouble)));
    }

pub returns-in-Some-Memory : goal.returns-in-Some-Memory
returns-in-Some-Memory g c =
    let said = c.audited-said in
    let trouble : c.print_end.new.printer.trouble ≡ Some Memory = search rules in
    record {
      ends = inr (prints_audit c.args.config.now c.args.head.now c.digest_for-digest.result c.args.layout c.in-Ok.slave _ _ c.args.lines (stand_of g.W.Write.contents c.args.printer.now) (stand_of g.W.Write.contents said.new.printer) (stand_of g.W.Write.contents c.print_end.new.printer) said.result _
          c.requires.head c.digest_for-digest.ensures c.in-Ok.ensures said.ensures.audits said.ensures.settles (record { failed = said.ensures.failed; unfailed = said.ensures.unfailed }) c.print_end.ensures (sym (ap (λ t. answer_after t said.result) trouble)));
    }

pub returns-in-None : goal.returns-in-None
returns-in-None g c =
    let said = c.audited-said in
    let trouble : c.print_end.new.printer.trouble ≡ None = search rules in
    record {
      ends = inr (prints_audit c.args.config.now c.args.head.now c.digest_for-digest.result c.args.layout c.in-Ok.slave _ _ c.args.lines (stand_of g.W.Write.contents c.args.printer.now) (stand_of g.W.Write.contents said.new.printer) (stand_of g.W.Write.contents c.print_end.new.printer) said.result c.verdict_of.result
          c.requires.head c.digest_for-digest.ensures c.in-Ok.ensures said.ensures.audits said.ensures.settles (record { failed = said.ensures.failed; unfailed = said.ensures.unfailed }) c.print_end.ensures (c.verdict_of.ensures ∙ sym (ap (λ t. answer_after t said.result) trouble)));
    }
