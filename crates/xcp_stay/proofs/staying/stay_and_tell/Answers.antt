use Rattle.std.proofs.Common.{sym}
use Rattle.xcp_stay.proofs.KeptLemmas.{kept_as, mismatch_as}
use Rattle.xcp_stay.proofs.staying.stay_and_tell.Goals as goal

pub returns-in-Ok-clause-kept : goal.returns-in-Ok-clause-kept
returns-in-Ok-clause-kept g c =
    let stayed = c.in-Ok.stayed in
    let ensures = c.in-Ok.ensures {u = tt} in
    kept_as c.args.unnamed.layout _ _ _ (g.S.Scribe.wrote stayed.scribe) stayed.keeper stayed.members.items stayed.locked.chapter stayed.locked.before stayed.locked.base c.report_of-told.result c.report_of-told.ensures.chapters c.report_of-told.ensures.calls c.report_of-told.ensures.lost ensures.leaves.joined ensures.leaves.closed.2 ensures.leaves.settled ensures.leaves.members ensures.leaves.wrote ensures.served

pub returns-in-Err-clause-mismatch : goal.returns-in-Err-clause-mismatch
returns-in-Err-clause-mismatch g c =
    mismatch_as g.N.Name.layout c.args.unnamed.layout g.N.Ledger.parts c.args.unnamed.callers c.told.result (sym c.requires.name.2) (sym c.requires.name.1) c.told.ensures.mismatch
