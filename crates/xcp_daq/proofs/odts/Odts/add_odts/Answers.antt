use Rattle.std.proofs.Common.{◌≡◌, ◌+◌, arith, get_or, slice_set, ap}
use Rattle.std.proofs.lemmas.Grind.{get_or_default_zero}
use Rattle.std.proofs.lemmas.List.{length-set}
use Rattle.xcp_daq.proofs.OdtLemmas.{reads, lists_are, list_in, odts_added, odts_added-fit}
use Rattle.xcp_daq.proofs.odts.Odts.add_odts.Goals as goal

pub returns-clause-lists : goal.returns-clause-lists
returns-clause-lists c =
    let s = c.self.inside in
    let is = lists_are c.self.view_is in
    let h = list_in _ _ _ _ c.args.i is c.requires.list in
    let end = rw c.deref.ensures.value at c.end_of-end.ensures.value in
    let more : c.index_mut.result.now + c.args.n ≡ get_or s.odt_counts.items c.args.i 0 + c.args.n = grind (arith, get_or_default_zero) in
    odts_added _ _ _ _ _ _ c.args.i c.end_of-end.result c.args.n is c.self.invariant.fit h end c.put_in.ensures.items (ap (slice_set s.odt_counts.items c.args.i) more)

pub invariant_of-self : goal.invariant_of-self
invariant_of-self c =
    let s = c.self.inside in
    let h = list_in _ _ _ _ c.args.i (lists_are c.self.view_is) c.requires.list in
    let more : c.index_mut.result.now + c.args.n ≡ get_or s.odt_counts.items c.args.i 0 + c.args.n = grind (arith, get_or_default_zero) in
    record {
      fit = odts_added-fit _ _ _ _ _ c.args.i c.end_of-end.result c.args.n c.self.invariant.fit h c.put_in.ensures.items (ap (slice_set s.odt_counts.items c.args.i) more);
      lists = grind (arith, length-set);
      odts = record { few = grind (arith, reads); room = grind arith };
      entries = c.self.invariant.entries;
    }
