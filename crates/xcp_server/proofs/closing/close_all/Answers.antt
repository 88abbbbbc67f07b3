use Rattle.std.proofs.Common.{◌++◌, map, ap, ◌∙◌}
use Rattle.std.specs.Vec.Iter.{into_iter_items}
use Rattle.xcp_locked.specs.TaskOutcome.{chapters_of}
use Rattle.xcp_server.proofs.ServerOutcomeLemmas.{hung_up_as, map_map}
use Rattle.xcp_server.proofs.closing.close_all.Goals as goal

pub returns-clause-hung_up : goal.returns-clause-hung_up
returns-clause-hung_up g c =
    let spare = into_iter_items c.args.spare in
    let pumps = c.take_apart-ended.ensures.pumps in
    let workers = ap (λ ws. map (λ w. w.caller) ws) c.collect_workers-ran.ensures.workers ∙ map_map (λ d. d.worker) (λ w. w.caller) c.args.done.items in
    let tools = c.take_apart-ended.ensures.callers in
    hung_up_as _ _ c.put_together.result.0.fault _ _ c.put_together.result.0.callers.items c.put_together.result.0.locked.chapter c.put_together.result.0.locked.journal c.collect_workers-ran.ensures.fault (λ i. ((tools i ++ workers i) ++ pumps i) ++ spare) c.put_together.ensures.hung_up

pub returns-clause-back : goal.returns-clause-back
returns-clause-back g c =
    let back = c.put_together.ensures.back in
    let workers = ap (λ ws. map (λ w. w.reader) ws) c.collect_workers-ran.ensures.workers ∙ map_map (λ d. d.worker) (λ w. w.reader) c.args.done.items in
    record {
      outcomes_are = back.outcomes_are ∙ c.take_apart-ended.ensures.outcomes;
      left_is = back.left_is ∙ c.take_apart-ended.ensures.left;
      readers_back = back.readers_back ∙ ap (λ rs. rs ++ into_iter_items c.args.unused) workers;
      run = back.run;
      reached = back.reached;
    }

pub returns-clause-cut : goal.returns-clause-cut
returns-clause-cut g c =
    let cut = c.put_together.ensures.cut in
    let workers = c.collect_workers-ran.ensures.workers in
    record {
      chapters_are = cut.chapters_are ∙ ap (λ ws. (chapters_of ws).items) workers;
      way = cut.way ∙ ap (λ ws. (chapters_of ws).way) workers;
      pace = cut.pace;
    }
