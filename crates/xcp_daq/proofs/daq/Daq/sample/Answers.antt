use Rattle.std.proofs.Common.{subst, All, ap}
use Rattle.xcp_daq.specs.DaqInvariant.{IsEntry}
use Rattle.xcp_daq.specs.Pools.{joined}
use Rattle.xcp_daq.proofs.DaqListLemmas.{odts-of}
use Rattle.xcp_daq.proofs.daq.Daq.sample.Goals as goal

pub sample_due-requires-clause-written : goal.sample_due-requires-clause-written
sample_due-requires-clause-written c = subst (All IsEntry) (ap joined (odts-of c.self.inside.modes.items c.self.inside.odts.lists c.self.invariant.same)) c.self.invariant.lawful.written
