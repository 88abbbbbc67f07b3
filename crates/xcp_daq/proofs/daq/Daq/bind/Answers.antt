use Rattle.std.proofs.Common.{arith}
use Rattle.xcp_daq.specs.DaqLists.{no_list, list_at}
use Rattle.xcp_daq.proofs.DaqInvariantLemmas.{lawful_bound}
use Rattle.xcp_daq.proofs.daq.Daq.bind.Goals as goal

pub set_mode-requires-clause-lawful : goal.set_mode-requires-clause-lawful
set_mode-requires-clause-lawful c = lawful_bound (list_at c.args.self.now c.args.i) c.mode.result c.args.event c.args.prescaler c.args.priority c.args.stamp c.mode.ensures (c.known.ensures.each c.args.i no_list c.requires.list) c.requires.still (omega arith) c.requires.prescaler (omega arith) (omega arith)
