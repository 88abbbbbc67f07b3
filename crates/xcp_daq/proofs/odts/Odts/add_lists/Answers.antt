use Rattle.std.proofs.Common.{arith}
use Rattle.xcp_daq.proofs.PoolPartLemmas.{length-parts, parts-blank, spliced-end}
use Rattle.xcp_daq.proofs.OdtLemmas.{lists_added-fit}
use Rattle.xcp_daq.proofs.odts.Odts.add_lists.Goals as goal

pub returns-clause-lists : goal.returns-clause-lists
returns-clause-lists c = grind (arith, length-parts, parts-blank, spliced-end)

pub invariant_of-self : goal.invariant_of-self
invariant_of-self c = record {
  fit = lists_added-fit _ _ _ _ c.len-end.result c.args.n c.self.invariant.fit c.put_in.ensures.items;
  lists = record { few = grind (arith, length-parts); room = grind arith };
  odts = c.self.invariant.odts;
  entries = c.self.invariant.entries;
}
