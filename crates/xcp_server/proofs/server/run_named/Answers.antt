use Rattle.std.proofs.Common.{rules, ◌≡◌, ◌+◌, ◌≤◌, ◌++◌, length, map, vec_len, ap, subst, sym, ◌∙◌, arith}
use Rattle.std.specs.Prelude.{Option}
use Rattle.xcp_locked.specs.Excerpts.{Way, cuts_at_stores}
use Rattle.std.specs.Vec.Iter.{into_iter_items}
use Rattle.xcp_connection.specs.Closing.{AreOfOneOutlet}
use Rattle.xcp_server.specs.private.ConnectionParts.{CameOfTools, IsEndOf}
use Rattle.xcp_server.specs.private.Dispatching.{IsPartedAt}
use Rattle.xcp_server.specs.ServerOutcome.{ServedAt}
use Rattle.xcp_locked.specs.TaskOutcome.{DoneAs}
use Rattle.std.proofs.lemmas.Slice.Zip.{AllZip-long}
use Rattle.xcp_locked.proofs.PairedListLemmas.{each_length, each_through}
use Rattle.xcp_server.proofs.ServerOutcomeLemmas.{all_come_back, all_dealt, all_there, all_worked, as_many_connections, as_many_pumps, as_many_readers, as_many_tasks, as_many_tools, back_in_order, length_map, room_for_fewer}
use Rattle.xcp_server.proofs.ConnectionOutcomeLemmas.{CameSomehowAt, all_came, each_second, ends_outlets, one_outlet, served_at, unput_ends}
use Rattle.xcp_server.specs.private.DealtCallers.{Dealt}
use Rattle.xcp_server.specs.private.WrittenChapters.{relay_to}
use Rattle.xcp_server.proofs.CommandCountLemmas.{ends_session}
use Rattle.xcp_server.proofs.WrittenChapterLemmas.{first_way_of, way_back}
use Rattle.xcp_server.proofs.server.run_named.Goals as goal

pub perform-requires-clause-ends : goal.perform-requires-clause-ends
perform-requires-clause-ends g c =
    let h = c.in_ok-heard.field-0 in
    let ends : vec_len h.ends ≡ length h.ends.items = search rules in
    let readers : vec_len h.readers ≡ length h.readers.items = search rules in
    let outlets : vec_len c.args.outlets ≡ length c.args.outlets.items = search rules in
    let streams : vec_len c.args.ready.streams ≡ length c.args.ready.streams.items = search rules in
    let a = ap length c.in_ok-heard.ensures.ends ∙ length_map (λ e. (e.0, e.1)) c.args.outlets.items in
    let b = ap length c.in_ok-heard.ensures.readers ∙ length_map (λ s. s.0) c.args.ready.streams.items in
    let all = c.requires.all in
    omega (arith, ends, readers, outlets, streams, a, b, all)

pub perform-requires-clause-unput : goal.perform-requires-clause-unput
perform-requires-clause-unput g c κs within = unput_ends c.args.outlets.items c.in_ok-heard.field-0.ends.items c.requires.fresh c.in_ok-heard.ensures.ends

pub finish_each-requires-clause-all : goal.finish_each-requires-clause-all
finish_each-requires-clause-all g c =
    let P = c.in_ok-parted.field-0 in
    let perf = c.in_ok-parted.ensures in
    let D = perf.duties in
    let H = c.in_ok-heard.field-0 in
    let streams = c.args.ready.streams.items in
    let outs = map (λ e. e.0.outlet) H.ends.items in
    let deal : Dealt c.args.limits c.args.cycles c.args.chapter c.args.tasks c.args.ready.callers.items c.args.ready.readers.items (map (λ s. s.0) streams) outs D =
    subst (λ xs. Dealt c.args.limits c.args.cycles c.args.chapter c.args.tasks c.args.ready.callers.items c.args.ready.readers.items xs outs D) c.in_ok-heard.ensures.readers perf.dealt in
    let parted : vec_len P.parted ≡ length P.parted.items = search rules in
    let given : vec_len c.args.ready.streams ≡ length streams = search rules in
    let all = AllZip-long (CameOfTools g.I.Read.remaining) D.connections.items P.parted.items perf.parted in
    let connected = as_many_connections c.args.limits c.args.cycles c.args.chapter c.args.tasks c.args.ready.callers.items c.args.ready.readers.items streams outs D deal in
    let dispatches = c.in_ok-heard.ensures.dispatches in
    omega (arith, parted, given, all, connected, dispatches)

pub finish_each-requires-clause-room : goal.finish_each-requires-clause-room
finish_each-requires-clause-room g c =
    let P = c.in_ok-parted.field-0 in
    let perf = c.in_ok-parted.ensures in
    let D = perf.duties in
    let H = c.in_ok-heard.field-0 in
    let streams = c.args.ready.streams.items in
    let outs = map (λ e. e.0.outlet) H.ends.items in
    let deal : Dealt c.args.limits c.args.cycles c.args.chapter c.args.tasks c.args.ready.callers.items c.args.ready.readers.items (map (λ s. s.0) streams) outs D =
    subst (λ xs. Dealt c.args.limits c.args.cycles c.args.chapter c.args.tasks c.args.ready.callers.items c.args.ready.readers.items xs outs D) c.in_ok-heard.ensures.readers perf.dealt in
    let parted : vec_len P.parted ≡ length P.parted.items = search rules in
    let given : vec_len c.args.ready.streams ≡ length streams = search rules in
    let all = AllZip-long (CameOfTools g.I.Read.remaining) D.connections.items P.parted.items perf.parted in
    let connected = as_many_connections c.args.limits c.args.cycles c.args.chapter c.args.tasks c.args.ready.callers.items c.args.ready.readers.items streams outs D deal in
    let heard = ap length c.in_ok-heard.ensures.readers ∙ length_map (λ s. s.0) streams in
    let room = perf.room.1 in
    (perf.room.0, omega (arith, parted, given, all, connected, heard, room))

pub close_each-closed-requires-clause-room : goal.close_each-closed-requires-clause-room
close_each-closed-requires-clause-room g c =
    let P = c.in_ok-parted.field-0 in
    let perf = c.in_ok-parted.ensures in
    let D = perf.duties in
    let H = c.in_ok-heard.field-0 in
    let streams = c.args.ready.streams.items in
    let outs = map (λ e. e.0.outlet) H.ends.items in
    let deal : Dealt c.args.limits c.args.cycles c.args.chapter c.args.tasks c.args.ready.callers.items c.args.ready.readers.items (map (λ s. s.0) streams) outs D =
    subst (λ xs. Dealt c.args.limits c.args.cycles c.args.chapter c.args.tasks c.args.ready.callers.items c.args.ready.readers.items xs outs D) c.in_ok-heard.ensures.readers perf.dealt in
    let parted : vec_len P.parted ≡ length P.parted.items = search rules in
    let given : vec_len c.args.ready.streams ≡ length streams = search rules in
    let all = AllZip-long (CameOfTools g.I.Read.remaining) D.connections.items P.parted.items perf.parted in
    let connected = as_many_connections c.args.limits c.args.cycles c.args.chapter c.args.tasks c.args.ready.callers.items c.args.ready.readers.items streams outs D deal in
    let ds : vec_len c.in-Some.parted ≡ length c.in-Some.parted.items = search rules in
    let finished = each_length (IsPartedAt g.O.Write.contents g.L.LineName.outlet g.L.LineName.before g.L.LineName.failures) 0 P.parted.items c.in-Some.parted.items c.in-Some.ensures in
    let room = c.requires.ready.rooms.for_closed in
    (c.requires.ready.rooms.none_closed, omega (arith, parted, given, all, connected, ds, finished, room))

pub close_each-closed-requires-clause-one : goal.close_each-closed-requires-clause-one
close_each-closed-requires-clause-one g c =
    let P = c.in_ok-parted.field-0 in
    let perf = c.in_ok-parted.ensures in
    let D = perf.duties in
    let H = c.in_ok-heard.field-0 in
    let streams = c.args.ready.streams.items in
    let outs = map (λ e. e.0.outlet) H.ends.items in
    let deal : Dealt c.args.limits c.args.cycles c.args.chapter c.args.tasks c.args.ready.callers.items c.args.ready.readers.items (map (λ s. s.0) streams) outs D =
    subst (λ xs. Dealt c.args.limits c.args.cycles c.args.chapter c.args.tasks c.args.ready.callers.items c.args.ready.readers.items xs outs D) c.in_ok-heard.ensures.readers perf.dealt in
    let tools = map (λ k. k.0.station.caller) D.connections.items in
    let drains = map (λ k. k.1.station.caller) D.connections.items in
    let came = all_came g.I.Read.remaining g.O.Write.contents c.args.limits tools drains g.L.LineName.outlet g.L.LineName.before g.L.LineName.failures streams c.args.outlets.items D.connections.items P.parted.items c.in-Some.parted.items
    (all_dealt c.args.limits c.args.cycles c.args.chapter c.args.tasks c.args.ready.callers.items c.args.ready.readers.items streams outs D deal) (deal.outlets_are ∙ ends_outlets c.args.outlets.items H.ends.items c.requires.fresh c.in_ok-heard.ensures.ends) c.requires.outlets c.requires.before c.requires.failures perf.parted c.in-Some.ensures in
    each_second _ AreOfOneOutlet (λ i e d h. one_outlet g.I.Read.remaining g.O.Write.contents c.args.limits tools drains i e d h) 0 streams c.in-Some.parted.items came

pub close_all-closing-requires-clause-some : goal.close_all-closing-requires-clause-some
close_all-closing-requires-clause-some g c =
    let P = c.in_ok-parted.field-0 in
    let perf = c.in_ok-parted.ensures in
    let D = perf.duties in
    let H = c.in_ok-heard.field-0 in
    let streams = c.args.ready.streams.items in
    let outs = map (λ e. e.0.outlet) H.ends.items in
    let deal : Dealt c.args.limits c.args.cycles c.args.chapter c.args.tasks c.args.ready.callers.items c.args.ready.readers.items (map (λ s. s.0) streams) outs D =
    subst (λ xs. Dealt c.args.limits c.args.cycles c.args.chapter c.args.tasks c.args.ready.callers.items c.args.ready.readers.items xs outs D) c.in_ok-heard.ensures.readers perf.dealt in
    let parted : vec_len P.parted ≡ length P.parted.items = search rules in
    let given : vec_len c.args.ready.streams ≡ length streams = search rules in
    let all = AllZip-long (CameOfTools g.I.Read.remaining) D.connections.items P.parted.items perf.parted in
    let connected = as_many_connections c.args.limits c.args.cycles c.args.chapter c.args.tasks c.args.ready.callers.items c.args.ready.readers.items streams outs D deal in
    let ds : vec_len c.in-Some.parted ≡ length c.in-Some.parted.items = search rules in
    let finished = each_length (IsPartedAt g.O.Write.contents g.L.LineName.outlet g.L.LineName.before g.L.LineName.failures) 0 P.parted.items c.in-Some.parted.items c.in-Some.ensures in
    let closed : vec_len c.close_each-closed.result ≡ length c.close_each-closed.result.items = search rules in
    let put = AllZip-long IsEndOf c.in-Some.parted.items c.close_each-closed.result.items c.close_each-closed.ensures in
    let some = c.requires.some in
    omega (arith, given, all, connected, finished, closed, put, some)

pub close_all-closing-requires-clause-ended : goal.close_all-closing-requires-clause-ended
close_all-closing-requires-clause-ended g c =
    let P = c.in_ok-parted.field-0 in
    let perf = c.in_ok-parted.ensures in
    let D = perf.duties in
    let H = c.in_ok-heard.field-0 in
    let streams = c.args.ready.streams.items in
    let outs = map (λ e. e.0.outlet) H.ends.items in
    let deal : Dealt c.args.limits c.args.cycles c.args.chapter c.args.tasks c.args.ready.callers.items c.args.ready.readers.items (map (λ s. s.0) streams) outs D =
    subst (λ xs. Dealt c.args.limits c.args.cycles c.args.chapter c.args.tasks c.args.ready.callers.items c.args.ready.readers.items xs outs D) c.in_ok-heard.ensures.readers perf.dealt in
    let parted : vec_len P.parted ≡ length P.parted.items = search rules in
    let given : vec_len c.args.ready.streams ≡ length streams = search rules in
    let all = AllZip-long (CameOfTools g.I.Read.remaining) D.connections.items P.parted.items perf.parted in
    let connected = as_many_connections c.args.limits c.args.cycles c.args.chapter c.args.tasks c.args.ready.callers.items c.args.ready.readers.items streams outs D deal in
    let ds : vec_len c.in-Some.parted ≡ length c.in-Some.parted.items = search rules in
    let finished = each_length (IsPartedAt g.O.Write.contents g.L.LineName.outlet g.L.LineName.before g.L.LineName.failures) 0 P.parted.items c.in-Some.parted.items c.in-Some.ensures in
    let closed : vec_len c.close_each-closed.result ≡ length c.close_each-closed.result.items = search rules in
    let put = AllZip-long IsEndOf c.in-Some.parted.items c.close_each-closed.result.items c.close_each-closed.ensures in
    let done : vec_len P.done ≡ length P.done.items = search rules in
    let tasks = AllZip-long (DoneAs g.N.Name.layout g.G.Gate.may_end) D.tasks.items P.done.items perf.worked in
    let callers = c.args.ready.callers.ok.0 in
    let spare = ap (λ x. length (into_iter_items x)) perf.spare in
    let there = all_there c.args.limits c.args.cycles c.args.chapter c.args.tasks c.args.ready.callers.items c.args.ready.readers.items streams outs D deal c.close_each-closed.result.items P.done.items (put ∙ (finished ∙ all)) tasks in
    room_for_fewer _ _ _ _ c.args.ready.rooms.ended (omega (arith, callers, closed, done, there, spare)) (omega (arith, given, closed, put, finished, all, connected)) c.requires.ready.rooms.for_ended

pub close_all-closing-requires-clause-workers : goal.close_all-closing-requires-clause-workers
close_all-closing-requires-clause-workers g c =
    let P = c.in_ok-parted.field-0 in
    let perf = c.in_ok-parted.ensures in
    let D = perf.duties in
    let H = c.in_ok-heard.field-0 in
    let streams = c.args.ready.streams.items in
    let outs = map (λ e. e.0.outlet) H.ends.items in
    let deal : Dealt c.args.limits c.args.cycles c.args.chapter c.args.tasks c.args.ready.callers.items c.args.ready.readers.items (map (λ s. s.0) streams) outs D =
    subst (λ xs. Dealt c.args.limits c.args.cycles c.args.chapter c.args.tasks c.args.ready.callers.items c.args.ready.readers.items xs outs D) c.in_ok-heard.ensures.readers perf.dealt in
    let done : vec_len P.done ≡ length P.done.items = search rules in
    let tasks = AllZip-long (DoneAs g.N.Name.layout g.G.Gate.may_end) D.tasks.items P.done.items perf.worked in
    let hired = as_many_tasks c.args.limits c.args.cycles c.args.chapter c.args.tasks c.args.ready.callers.items c.args.ready.readers.items streams outs D deal in
    let room = c.requires.ready.rooms.for_workers in
    (c.requires.ready.rooms.no_worker, omega (arith, done, tasks, hired, room))

pub close_all-closing-requires-clause-readers : goal.close_all-closing-requires-clause-readers
close_all-closing-requires-clause-readers g c =
    let P = c.in_ok-parted.field-0 in
    let perf = c.in_ok-parted.ensures in
    let D = perf.duties in
    let H = c.in_ok-heard.field-0 in
    let streams = c.args.ready.streams.items in
    let outs = map (λ e. e.0.outlet) H.ends.items in
    let deal : Dealt c.args.limits c.args.cycles c.args.chapter c.args.tasks c.args.ready.callers.items c.args.ready.readers.items (map (λ s. s.0) streams) outs D =
    subst (λ xs. Dealt c.args.limits c.args.cycles c.args.chapter c.args.tasks c.args.ready.callers.items c.args.ready.readers.items xs outs D) c.in_ok-heard.ensures.readers perf.dealt in
    let done : vec_len P.done ≡ length P.done.items = search rules in
    let tasks = AllZip-long (DoneAs g.N.Name.layout g.G.Gate.may_end) D.tasks.items P.done.items perf.worked in
    let hired = as_many_tasks c.args.limits c.args.cycles c.args.chapter c.args.tasks c.args.ready.callers.items c.args.ready.readers.items streams outs D deal in
    let lent = as_many_readers c.args.limits c.args.cycles c.args.chapter c.args.tasks c.args.ready.callers.items c.args.ready.readers.items streams outs D deal in
    let unused = ap (λ x. length (into_iter_items x)) perf.unused in
    let readers = c.args.ready.readers.ok.0 in
    let room = c.requires.ready.rooms.for_readers in
    (c.requires.ready.rooms.no_reader, omega (arith, done, tasks, hired, lent, unused, readers, room))

pub returns-clause-closes : goal.returns-clause-closes
returns-clause-closes g c =
    let limits = c.args.limits in
    let closed = c.close_each-closed.result.items in
    let P = c.in_ok-parted.field-0 in
    let perf = c.in_ok-parted.ensures in
    let D = perf.duties in
    let H = c.in_ok-heard.field-0 in
    let streams = c.args.ready.streams.items in
    let outs = map (λ e. e.0.outlet) H.ends.items in
    let deal : Dealt c.args.limits c.args.cycles c.args.chapter c.args.tasks c.args.ready.callers.items c.args.ready.readers.items (map (λ s. s.0) streams) outs D =
    subst (λ xs. Dealt c.args.limits c.args.cycles c.args.chapter c.args.tasks c.args.ready.callers.items c.args.ready.readers.items xs outs D) c.in_ok-heard.ensures.readers perf.dealt in
    let tools = map (λ k. k.0.station.caller) D.connections.items in
    let drains = map (λ k. k.1.station.caller) D.connections.items in
    let came = all_came g.I.Read.remaining g.O.Write.contents c.args.limits tools drains g.L.LineName.outlet g.L.LineName.before g.L.LineName.failures streams c.args.outlets.items D.connections.items P.parted.items c.in-Some.parted.items
    (all_dealt c.args.limits c.args.cycles c.args.chapter c.args.tasks c.args.ready.callers.items c.args.ready.readers.items streams outs D deal) (deal.outlets_are ∙ ends_outlets c.args.outlets.items H.ends.items c.requires.fresh c.in_ok-heard.ensures.ends) c.requires.outlets c.requires.before c.requires.failures perf.parted c.in-Some.ensures in
    record {
      tools = tools;
      connected = as_many_tools c.args.limits c.args.cycles c.args.chapter c.args.tasks c.args.ready.callers.items c.args.ready.readers.items streams outs D deal;
      pumps = drains;
      drained = as_many_pumps c.args.limits c.args.cycles c.args.chapter c.args.tasks c.args.ready.callers.items c.args.ready.readers.items streams outs D deal;
      spare = into_iter_items P.spare;
      workers = deal.workers;
      hired = deal.hired;
      fresh = deal.fresh;
      stores = λ some. subst (λ (w : Option Way). cuts_at_stores w ≡ c.args.each_store) (sym perf.way ∙ first_way_of c.args.cycles c.args.chapter 0 deal.workers D.tasks.items deal.numbered) (c.requires.ready.stores some);
      dealt = subst (λ x. c.args.ready.callers.items ≡ tools ++ map (λ w. w.caller) deal.workers ++ drains ++ into_iter_items x) (sym perf.spare) deal.in_order;
      closed = closed;
      served = each_through _ IsEndOf (ServedAt g.I.Read.remaining g.O.Write.contents limits.max_cto limits.turns tools drains) (λ i e d k h x. served_at g.I.Read.remaining g.O.Write.contents limits c.requires.once tools drains i e d k h x) 0 streams c.in-Some.parted.items closed came c.close_each-closed.ensures;
      outcomes_are = c.close_all-closing.ensures.back.outcomes_are;
      left_is = c.close_all-closing.ensures.back.left_is;
      done = P.done.items;
      worked = all_worked c.args.limits c.args.cycles c.args.chapter c.args.tasks c.args.ready.callers.items c.args.ready.readers.items streams outs D deal g.N.Name.layout g.G.Gate.may_end P.done.items perf.worked;
      hung_up = c.close_all-closing.ensures.hung_up;
      chapters_are = c.close_all-closing.ensures.cut.chapters_are;
      unused = into_iter_items P.unused;
      lent = subst (λ x. c.args.ready.readers.items ≡ map (λ w. w.reader) deal.workers ++ into_iter_items x) (sym perf.unused) deal.readers_in_order;
      readers_back = c.close_all-closing.ensures.back.readers_back;
    }

pub returns-clause-leaves : goal.returns-clause-leaves
returns-clause-leaves g c =
    let P = c.in_ok-parted.field-0 in
    let perf = c.in_ok-parted.ensures in
    let D = perf.duties in
    let H = c.in_ok-heard.field-0 in
    let streams = c.args.ready.streams.items in
    let outs = map (λ e. e.0.outlet) H.ends.items in
    let deal : Dealt c.args.limits c.args.cycles c.args.chapter c.args.tasks c.args.ready.callers.items c.args.ready.readers.items (map (λ s. s.0) streams) outs D =
    subst (λ xs. Dealt c.args.limits c.args.cycles c.args.chapter c.args.tasks c.args.ready.callers.items c.args.ready.readers.items xs outs D) c.in_ok-heard.ensures.readers perf.dealt in
    let parted : vec_len P.parted ≡ length P.parted.items = search rules in
    let given : vec_len c.args.ready.streams ≡ length streams = search rules in
    let all = AllZip-long (CameOfTools g.I.Read.remaining) D.connections.items P.parted.items perf.parted in
    let connected = as_many_connections c.args.limits c.args.cycles c.args.chapter c.args.tasks c.args.ready.callers.items c.args.ready.readers.items streams outs D deal in
    let ds : vec_len c.in-Some.parted ≡ length c.in-Some.parted.items = search rules in
    let finished = each_length (IsPartedAt g.O.Write.contents g.L.LineName.outlet g.L.LineName.before g.L.LineName.failures) 0 P.parted.items c.in-Some.parted.items c.in-Some.ensures in
    let closed : vec_len c.close_each-closed.result ≡ length c.close_each-closed.result.items = search rules in
    let put = AllZip-long IsEndOf c.in-Some.parted.items c.close_each-closed.result.items c.close_each-closed.ensures in
    let done : vec_len P.done ≡ length P.done.items = search rules in
    let tasks = AllZip-long (DoneAs g.N.Name.layout g.G.Gate.may_end) D.tasks.items P.done.items perf.worked in
    let back : vec_len c.close_all-closing.result.0.callers ≡ length c.close_all-closing.result.0.callers.items = search rules in
    let opened : length c.args.ready.callers.items ≡ vec_len c.args.ready.callers = search rules in
    let first = map (λ k. k.tool) c.close_each-closed.result.items in
    let next = map (λ k. k.worker.caller) P.done.items in
    let last = map (λ k. k.pump) c.close_each-closed.result.items in
    let there = subst (λ x. length (first ++ next ++ last ++ into_iter_items x) ≡ length c.args.ready.callers.items) (sym perf.spare) (back_in_order c.args.limits c.args.cycles c.args.chapter c.args.tasks c.args.ready.callers.items c.args.ready.readers.items streams outs D deal c.close_each-closed.result.items P.done.items (put ∙ (finished ∙ all)) tasks) in
    record {
      callers = back ∙ (all_come_back _ _ _ _ _ _ c.close_all-closing.ensures.hung_up ∙ (there ∙ opened));
      hangup = ends_session _ _ _ _ _ _ c.close_all-closing.ensures.hung_up;
      run = c.close_all-closing.ensures.back.run;
      reached = c.close_all-closing.ensures.back.reached;
      written = search rules;
    }

pub finish-scribe-requires-clause-relay : goal.finish-scribe-requires-clause-relay
finish-scribe-requires-clause-relay g c =
    let perf = c.in_ok-parted.ensures in
    let D = perf.duties in
    let back = way_back g.N.Name.layout g.G.Gate.may_end D.tasks.items c.in_ok-parted.field-0.done.items perf.worked in
    let way = c.close_all-closing.ensures.cut.way ∙ (back ∙ perf.way) in
    perf.relay ∙ (c.requires.ready.relay ∙ ap relay_to (sym way))
