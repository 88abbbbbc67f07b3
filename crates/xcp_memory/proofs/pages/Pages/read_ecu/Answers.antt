use Rattle.std.proofs.Common.{length, ◌∙◌}
use Rattle.xcp_memory.proofs.ReadLaws.{controller_reads}
use Rattle.xcp_memory.proofs.pages.Pages.read_ecu.Goals as goal

pub returns-clause-reads : goal.returns-clause-reads
returns-clause-reads c =
    let found = c.in_ok-range.ensures.ok in
    controller_reads c.args.self.now c.args.address (length c.args.out.now) _ c.known.ensures.layout c.known.ensures.pages found.0 (c.copy_from_slice.ensures.after ∙ found.2)
