use Rattle.std.proofs.Common.{◌∷◌, [], ◌++◌, length, length-append, ap, refl, subst, sym, arith}
use Rattle.xcp_locked.specs.PairedLists.{EachFrom}
use Rattle.xcp_locked.specs.TaskOutcome.{IsTaskOf}
use Rattle.xcp_locked.proofs.PairedListLemmas.{turn, each_more}
use Rattle.xcp_locked.proofs.running.number_tasks.Goals as goal

pub loop-worker-preserved : goal.loop-worker-preserved
loop-worker-preserved g c =
    let at = c.loop-worker in
    let was = at.invariant in
    let steps = c.in-Some.ensures.steps in
    let short = ap length steps.0 in
    let gone = steps.1 in
    let pushed = c.push_reserved.ensures.len in
    let room = c.push_reserved.ensures.capacity in
    let longer = length-append at.yielded (c.in-Some.worker ∷ []) in (
      turn at.yielded _ _ _ c.in-Some.worker was.0 steps.0,
      omega (arith, short, gone, was.1),
      omega (arith, gone, pushed, room, was.2),
      subst (λ z. EachFrom (IsTaskOf {N = g.row.N.Denot} {G = g.row.G.Denot} c.args.cycles c.args.chapter) 0 (at.yielded ++ c.in-Some.worker ∷ []) z) (sym c.push_reserved.ensures.items)
          (each_more (IsTaskOf {N = g.row.N.Denot} {G = g.row.G.Denot} c.args.cycles c.args.chapter) 0 at.yielded at.tasks.items c.in-Some.worker _ was.3 (record { number = omega (arith, was.4); cycles_are = refl; chapter_is = refl; worker = refl })),
      omega (arith, longer, was.4),
      omega (arith, gone, was.5),
    )
