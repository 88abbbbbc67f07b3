use Rattle.xcp_daq.proofs.DaqInvariantLemmas.{pointer_in}
use Rattle.xcp_daq.proofs.daq.Daq.move_on.Goals as goal

pub behind-self-inside-requires : goal.behind-self-inside-requires
behind-self-inside-requires c = pointer_in _ c.args.pointer c.known.ensures c.requires
