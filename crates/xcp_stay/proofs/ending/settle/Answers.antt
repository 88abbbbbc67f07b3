use Rattle.std.proofs.Common.{refl}
use Rattle.xcp_stay.proofs.KeptLemmas.{left_by}
use Rattle.xcp_stay.proofs.ending.settle.Goals as goal

pub returns : goal.returns
returns g c =
    let left = c.in-Ok.ensures {u = tt} in
    let meets = c.if-not-meets.ensures in
    (left_by g.N.Name.layout (g.S.Scribe.wrote c.in-Ok.resigned.scribe) c.in-Ok.resigned.keeper c.args.collector c.args.locked c.in-Ok.resigned.members.items c.requires.closed c.requires.images left.keeper (meets.joined refl) (meets.settled refl) (meets.once refl) left.numbered left.handed left.counted left.few left.wrote, left.members)
