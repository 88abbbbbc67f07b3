use Rattle.std.proofs.Common.{rules, ◌≡◌, ◌++◌, length, map, vec_len, ap, ◌∙◌, arith}
use Rattle.std.specs.Vec.Iter.{into_iter_items}
use Rattle.xcp_locked.proofs.PairedListLemmas.{in_three_turns}
use Rattle.xcp_server.proofs.ServerOutcomeLemmas.{left_behind, length_map}
use Rattle.xcp_server.proofs.WrittenChapterLemmas.{first_way_of}
use Rattle.xcp_server.proofs.dealing.deal.Goals as goal

pub next_callers-requires : goal.next_callers-requires
next_callers-requires g c =
    let callers : vec_len c.args.callers ≡ length c.args.callers.items = search rules in
    let all = ap length c.into_iter-spare.ensures.rest in
    let streams = c.len.ensures in
    let enough = c.requires.enough in
    omega (arith, callers, all, streams, enough)

pub employ-requires-clause-callers : goal.employ-requires-clause-callers
employ-requires-clause-callers g c =
    let callers : vec_len c.args.callers ≡ length c.args.callers.items = search rules in
    let all = ap length c.into_iter-spare.ensures.rest in
    let tools : vec_len c.in_ok-tools.tools ≡ length c.in_ok-tools.tools.items = search rules in
    let rest = left_behind c.in_ok-tools.tools.items (into_iter_items c.next_callers.new.callers) (into_iter_items c.into_iter-spare.result) c.in_ok-tools.ensures.dealt in
    let count = c.in_ok-tools.ensures.count in
    let streams = c.len.ensures in
    let enough = c.requires.enough in
    omega (arith, callers, all, tools, rest, count, streams, enough)

pub employ-requires-clause-readers : goal.employ-requires-clause-readers
employ-requires-clause-readers g c =
    let readers : vec_len c.args.readers ≡ length c.args.readers.items = search rules in
    let all = ap length c.into_iter-unused.ensures.rest in
    let few = c.requires.few.1 in
    omega (arith, readers, all, few)

pub connect-requires-clause-tools : goal.connect-requires-clause-tools
connect-requires-clause-tools g c = let count = c.in_ok-tools.ensures.count in let streams = c.len.ensures in omega (arith, count, streams)

pub connect-requires-clause-pumps : goal.connect-requires-clause-pumps
connect-requires-clause-pumps g c =
    let callers : vec_len c.args.callers ≡ length c.args.callers.items = search rules in
    let all = ap length c.into_iter-spare.ensures.rest in
    let tools : vec_len c.in_ok-tools.tools ≡ length c.in_ok-tools.tools.items = search rules in
    let rest = left_behind c.in_ok-tools.tools.items (into_iter_items c.next_callers.new.callers) (into_iter_items c.into_iter-spare.result) c.in_ok-tools.ensures.dealt in
    let count = c.in_ok-tools.ensures.count in
    let workers : vec_len c.in_ok-workers.workers ≡ length c.in_ok-workers.workers.items = search rules in
    let hired = length_map (λ w. w.caller) c.in_ok-workers.workers.items in
    let more = left_behind (map (λ w. w.caller) c.in_ok-workers.workers.items) (into_iter_items c.employ.new.callers) (into_iter_items c.next_callers.new.callers) c.in_ok-workers.ensures.dealt in
    let tasks = c.in_ok-workers.ensures.count in
    let streams = c.len.ensures in
    let enough = c.requires.enough in
    omega (arith, callers, all, tools, rest, count, workers, hired, more, tasks, streams, enough)

pub returns-clause-way : goal.returns-clause-way
returns-clause-way g c = first_way_of c.args.cycles c.args.chapter 0 c.in_ok-workers.workers.items c.in_ok-tasks.tasks.items c.in_ok-tasks.ensures ∙ c.in_ok-workers.ensures.way

pub returns-clause-dealt : goal.returns-clause-dealt
returns-clause-dealt g c = record {
  connections = c.in_ok-connections.ensures.each;
  outlets_are = c.in_ok-connections.ensures.outlets;
  workers = c.in_ok-workers.workers.items;
  hired = search rules;
  fresh = c.in_ok-workers.ensures.fresh;
  numbered = c.in_ok-tasks.ensures;
  in_order =
      in_three_turns (map (λ k. k.0.station.caller) c.in_ok-connections.connections.items) (map (λ w. w.caller) c.in_ok-workers.workers.items) (map (λ k. k.1.station.caller) c.in_ok-connections.connections.items)
      (into_iter_items c.connect.new.pumps) (into_iter_items c.next_callers.new.callers) (into_iter_items c.employ.new.callers) (into_iter_items c.into_iter-spare.result) c.args.callers.items
      (ap (λ z. z ++ into_iter_items c.next_callers.new.callers) c.in_ok-connections.ensures.tools ∙ c.in_ok-tools.ensures.dealt) c.in_ok-workers.ensures.dealt c.in_ok-connections.ensures.dealt c.into_iter-spare.ensures.rest;
  readers_in_order = search rules;
}
