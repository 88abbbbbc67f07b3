use Rattle.std.proofs.Common.{rules, ◌≡◌, length, vec_len, arith}
use Rattle.xcp_locked.specs.TaskOutcome.{DoneAs, IsTaskOf, WorkedAs}
use Rattle.xcp_locked.proofs.PairedListLemmas.{zip_of, each_through, each_length}
use Rattle.xcp_locked.proofs.TaskOutcomeLemmas.{worked_as}
use Rattle.xcp_locked.proofs.running.run_tasks.Goals as goal

pub collect_workers-requires : goal.collect_workers-requires
collect_workers-requires g c =
    let done : vec_len c.in_ok-done.done ≡ length c.in_ok-done.done.items = search rules in
    let workers : vec_len c.args.workers ≡ length c.args.workers.items = search rules in
    let tasks = each_length (IsTaskOf {N = g.row.N.Denot} {G = g.row.G.Denot} c.args.cycles c.args.chapter) 0 c.args.workers.items c.in_ok-tasks.tasks.items c.in_ok-tasks.ensures in
    let all = c.in_ok-done.ensures.all in
    let room = c.in_ok-back.ensures.capacity in
    let asked = c.len.ensures in (c.in_ok-back.ensures.items, omega (arith, done, workers, tasks, all, room, asked))

pub returns-clause-ran : goal.returns-clause-ran
returns-clause-ran g c =
    let came = c.in_ok-done.ensures in record {
      done = c.in_ok-done.done.items;
      worked = each_through (IsTaskOf {N = g.row.N.Denot} {G = g.row.G.Denot} c.args.cycles c.args.chapter) (DoneAs g.N.Name.layout g.G.Gate.may_end) (WorkedAs {N = g.row.N.Denot} g.N.Name.layout g.G.Gate.may_end c.args.cycles c.args.chapter)
          (λ n w t d is h. worked_as g.N.Name.layout g.G.Gate.may_end c.args.cycles t.cycles c.args.chapter t.chapter n t.task w t.worker d.worker d.fault is.number is.cycles_are is.chapter_is is.worker h) 0 c.args.workers.items c.in_ok-tasks.tasks.items c.in_ok-done.done.items
          c.in_ok-tasks.ensures (zip_of (DoneAs g.N.Name.layout g.G.Gate.may_end) c.in_ok-tasks.tasks.items c.in_ok-done.done.items came.all came.each);
      back = c.collect_workers.ensures.workers;
      fault = c.collect_workers.ensures.fault;
    }
