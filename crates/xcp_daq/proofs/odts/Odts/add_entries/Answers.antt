use Rattle.std.proofs.Common.{◌≡◌, ◌<◌, ◌+◌, length, arith, get_or, slice_set, ap}
use Rattle.std.proofs.lemmas.Grind.{get_or_default_zero}
use Rattle.std.proofs.lemmas.List.{length-set}
use Rattle.xcp_daq.proofs.OdtLemmas.{reads, lists_are, list_in, odt_in, entries_added, entries_added-fit}
use Rattle.xcp_daq.proofs.odts.Odts.add_entries.Goals as goal

pub returns-clause-lists : goal.returns-clause-lists
returns-clause-lists c =
    let s = c.self.inside in
    let is = lists_are c.self.view_is in
    let a = list_in _ _ _ _ c.args.i is c.requires.list in
    let b = odt_in _ _ _ _ c.args.i c.args.j is c.self.invariant.fit c.requires.list c.requires.odt in
    let odt = rw c.deref.ensures.value at c.place_of-g.ensures.value in
    let end = rw c.deref-2.ensures.value at c.end_of-end.ensures.value in
    let g : c.place_of-g.result < length s.entry_counts.items = grind (arith, reads) in
    let more : c.index_mut.result.now + c.args.n ≡ get_or s.entry_counts.items c.place_of-g.result 0 + c.args.n = grind (arith, get_or_default_zero) in
    entries_added _ _ _ _ _ _ c.args.i c.args.j c.place_of-g.result c.end_of-end.result c.args.n is c.self.invariant.fit a b odt g end c.put_in.ensures.items (ap (slice_set s.entry_counts.items c.place_of-g.result) more)

pub invariant_of-self : goal.invariant_of-self
invariant_of-self c =
    let s = c.self.inside in
    let g : c.place_of-g.result < length s.entry_counts.items = grind (arith, reads) in
    let more : c.index_mut.result.now + c.args.n ≡ get_or s.entry_counts.items c.place_of-g.result 0 + c.args.n = grind (arith, get_or_default_zero) in
    record {
      fit = entries_added-fit _ _ _ _ _ c.place_of-g.result c.end_of-end.result c.args.n c.self.invariant.fit g c.put_in.ensures.items (ap (slice_set s.entry_counts.items c.place_of-g.result) more);
      lists = c.self.invariant.lists;
      odts = grind (arith, length-set);
      entries = record { few = grind (arith, reads); room = grind arith };
    }
