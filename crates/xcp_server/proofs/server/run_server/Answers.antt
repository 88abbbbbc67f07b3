use Rattle.std.proofs.Common.{rules, ◌≡◌, length, vec_len, ap, sym, ◌∙◌, arith}
use Rattle.xcp_server.proofs.CommandCountLemmas.{all_count}
use Rattle.xcp_server.proofs.ServerOutcomeLemmas.{length-callers_of, reached_as}
use Rattle.xcp_server.proofs.server.run_server.Goals as goal

pub run_ready-requires-clause-enough : goal.run_ready-requires-clause-enough
run_ready-requires-clause-enough g c κs within =
    let streams : vec_len c.in_ok-ready.ready.streams ≡ length c.in_ok-ready.ready.streams.items = search rules in
    let given : vec_len c.args.streams ≡ length c.args.streams.items = search rules in
    let callers : vec_len c.in_ok-ready.ready.callers ≡ length c.in_ok-ready.ready.callers.items = search rules in
    let same = ap length c.in_ok-ready.ensures.streams in
    let opened = ap length c.in_ok-ready.ensures.callers ∙ length-callers_of c.args.unnamed.layout c.args.unnamed.callers in
    let enough = c.requires.callers in
    omega (arith, streams, given, callers, same, opened, enough)

pub returns-clause-frames : goal.returns-clause-frames
returns-clause-frames g c =
    let k = c.in_ok-run_ready.ensures.closes in
    let opened = c.in_ok-ready.ensures.callers in
    all_count g.I.Read.remaining g.O.Write.contents _ _ c.args.unnamed.layout c.args.unnamed.callers _ k.closed _ _ _ _ _ _ _ _ _ _ _ _ (sym opened ∙ k.dealt) k.served k.outcomes_are k.hung_up

pub returns-clause-leaves : goal.returns-clause-leaves
returns-clause-leaves g c =
    let callers : vec_len c.in_ok-ready.ready.callers ≡ length c.in_ok-ready.ready.callers.items = search rules in
    let opened = ap length c.in_ok-ready.ensures.callers ∙ length-callers_of c.args.unnamed.layout c.args.unnamed.callers in
    let leaves = c.in_ok-run_ready.ensures.leaves in
    record {
      callers = leaves.callers ∙ (callers ∙ opened);
      hangup = leaves.hangup;
      run = leaves.run;
      reached = reached_as _ _ _ _ (sym c.requires.name.2) leaves.reached;
      written = leaves.written;
    }
