use Rattle.std.proofs.Common.{ap, sym, ◌∙◌, arith, ◌++◌, List, [], ℕ, length, take, get_or}
use Rattle.arrayvec.specs.ArrayVec.{ArrayVec}
use Rattle.xcp_daq.specs.Pools.{joined}
use Rattle.xcp_daq.specs.Sample.{stamped_packets}
use Rattle.xcp_daq.proofs.DueListLemmas.{due_fits, due_packets, joined_more}
use Rattle.xcp_daq.proofs.daq.sampling.sample_list.Goals as goal

pub sample-requires-clause-fits : goal.sample-requires-clause-fits
sample-requires-clause-fits c = (due_fits c.args.modes.now c.args.odts.now.lists c.args.i _ c.args.channel c.requires.same c.requires.place c.requires.lists (sym c.is_due.ensures ∙ c.if-is_due.true)).each

pub sample-requires-clause-first : goal.sample-requires-clause-first
sample-requires-clause-first c =
    let fits = due_fits c.args.modes.now c.args.odts.now.lists c.args.i _ c.args.channel c.requires.same c.requires.place c.requires.lists (sym c.is_due.ensures ∙ c.if-is_due.true) in
    let first = fits.first in
    omega (arith, c.append.ensures.length, ap length c.deref.ensures.0, ap length c.new-stamp.ensures)

pub returns-then-is_due-clause-items : goal.returns-then-is_due-clause-items
returns-then-is_due-clause-items c =
    let bytes = rw (c.new-stamp.ensures, c.order.ensures, c.layout.ensures) at c.append.ensures.items in
    c.sample.ensures.items
    ∙ ap (λ (s : List ℕ). c.args.out.now.items ++ stamped_packets c.args.pages.now (length (joined (take c.args.i c.args.odts.now.lists))) s (get_or c.args.odts.now.lists c.args.i [])) (c.deref.ensures.0 ∙ bytes)
    ∙ ap (λ (ps : List (ArrayVec ℕ)). c.args.out.now.items ++ ps) (due_packets c.args.odts.now.class c.args.modes.now c.args.odts.now.lists c.args.i _ c.args.channel c.args.time c.args.pages.now c.requires.same c.requires.place (sym c.is_due.ensures ∙ c.if-is_due.true))

pub returns-else-is_due-clause-room : goal.returns-else-is_due-clause-room
returns-else-is_due-clause-room c = omega (arith, c.requires.room, joined_more c.args.odts.now.lists c.args.i (omega (arith, c.requires.place, c.requires.same)))
