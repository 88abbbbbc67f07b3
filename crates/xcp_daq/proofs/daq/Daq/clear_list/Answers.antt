use Rattle.std.specs.Prelude.{false}
use Rattle.xcp_daq.specs.DaqLists.{no_list, list_at}
use Rattle.xcp_daq.proofs.DaqInvariantLemmas.{lawful_stopped, cleared_twice}
use Rattle.xcp_daq.proofs.daq.Daq.clear_list.Goals as goal

pub set_mode-requires-clause-lawful : goal.set_mode-requires-clause-lawful
set_mode-requires-clause-lawful c = lawful_stopped (list_at c.args.self.now c.args.i) c.mode.result false c.mode.ensures (c.known.ensures.each c.args.i no_list c.requires)

pub returns : goal.returns
returns c = cleared_twice c.args.self.now c.set_mode.new.self c.unwrite.new.self c.args.i c.mode.result c.requires c.mode.ensures c.set_mode.ensures c.unwrite.ensures
