use Rattle.std.proofs.Common.{◌<◌, arith, get_or, length, refl}
use Rattle.xcp_daq.proofs.OdtLemmas.{reads, lists_are, list_in, odt_in, written}
use Rattle.xcp_daq.proofs.odts.Odts.write.Goals as goal

pub returns-clause-lists : goal.returns-clause-lists
returns-clause-lists c =
    let s = c.self.inside in
    let is = lists_are c.self.view_is in
    let a = list_in _ _ _ _ c.args.i is c.requires.list in
    let b = odt_in _ _ _ _ c.args.i c.args.j is c.self.invariant.fit c.requires.list c.requires.odt in
    let odt = rw c.deref.ensures.value at c.place_of-g.ensures.value in
    let entry = rw c.deref-2.ensures.value at c.place_of-m.ensures.value in
    let g : c.place_of-g.result < length s.entry_counts.items = grind (arith, reads) in
    let k : c.args.k < get_or s.entry_counts.items c.place_of-g.result 0 = grind (arith, reads) in
    written _ _ _ _ _ c.args.i c.args.j c.place_of-g.result c.args.k c.place_of-m.result _ is c.self.invariant.fit a b odt g k entry refl
