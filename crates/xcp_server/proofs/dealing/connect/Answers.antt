use Rattle.std.proofs.Common.{◌∷◌, [], ◌++◌, length, map, ap, sym, subst, arith}
use Rattle.std.specs.List.{AllZip}
use Rattle.xcp_server.specs.private.ConnectionParts.{IsConnectionWithin}
use Rattle.xcp_server.specs.private.Dispatching.{IsUnput}
use Rattle.xcp_server.proofs.ConnectionOutcomeLemmas.{each_of_one, each_of_others, outlets_all, outlets_more}
use Rattle.xcp_locked.proofs.PairedListLemmas.{turn, finish, zip_more, dealt_more}
use Rattle.xcp_server.proofs.dealing.connect.Goals as goal

pub loop-stream-preserved : goal.loop-stream-preserved
loop-stream-preserved g c =
    let at = c.loop-stream in
    let was = at.invariant in
    let steps = c.in-Some.ensures.steps in
    let short = ap length steps.0 in
    let gone = steps.1 in
    let pushed = c.push_reserved.ensures.len in
    let room = c.push_reserved.ensures.capacity in
    let heard = c.in-Some-next.ensures.items in
    let drained = c.in-Some-next-2.ensures.items in
    let one_heard = ap length heard in
    let one_drained = ap length drained in
    let given = c.in-Some-next-3.ensures.items in
    let one_given = ap length given in (
      turn at.yielded _ _ _ c.in-Some.stream was.0 steps.0,
      omega (arith, short, gone, was.1),
      omega (arith, gone, pushed, room, was.2),
      subst (λ z. AllZip (IsConnectionWithin c.args.limits) (at.yielded ++ c.in-Some.stream ∷ []) z) (sym c.push_reserved.ensures.items)
          (zip_more (IsConnectionWithin c.args.limits) at.yielded at.connections.items c.in-Some.stream _ was.3 c.connection.ensures.is),
      dealt_more (λ k. k.0.station.caller) at.connections.items _ _ c.in-Some-next.tool _ _ _ was.4 heard c.connection.ensures.tool c.push_reserved.ensures.items,
      omega (arith, gone, one_heard, was.5),
      dealt_more (λ k. k.1.station.caller) at.connections.items _ _ c.in-Some-next-2.pump _ _ _ was.6 drained c.connection.ensures.pump c.push_reserved.ensures.items,
      omega (arith, gone, one_drained, was.7),
      omega (arith, gone, was.8),
      omega (arith, gone, was.9),
      outlets_more at.connections.items _ _ c.in-Some-next-3.two _ _ _ was.10 given c.connection.ensures.outlet c.push_reserved.ensures.items,
      omega (arith, gone, one_given, was.11),
      each_of_others IsUnput _ _ c.in-Some-next-3.two was.12 given,
    )

pub returns-clause-each : goal.returns-clause-each
returns-clause-each g c =
    let at = c.loop-stream in
    let was = at.invariant in
    subst (λ xs. AllZip (IsConnectionWithin c.args.limits) xs at.connections.items) (finish at.yielded _ _ c.args.streams.items _ was.0 was.1 c.in-None.ensures.steps.0 c.into_iter-stream-iterator.ensures.into_iter_gives.0) was.3

pub returns-clause-tools : goal.returns-clause-tools
returns-clause-tools g c =
    let at = c.loop-stream in
    let was = at.invariant in
    finish (map (λ k. k.0.station.caller) at.connections.items) _ _ c.args.tools.items _ was.4 was.5 c.in-None.ensures.steps.0 c.into_iter-tools.ensures.rest

pub connection-requires : goal.connection-requires
connection-requires g c = each_of_one IsUnput _ _ c.in-Some-next-3.two c.loop-stream.invariant.12 c.in-Some-next-3.ensures.items

pub returns-clause-outlets : goal.returns-clause-outlets
returns-clause-outlets g c =
    let at = c.loop-stream in
    let was = at.invariant in
    outlets_all at.connections.items _ _ was.10 was.11 c.in-None.ensures.steps.0 (ap (λ es. map (λ e. e.0.outlet) es) c.into_iter-ends.ensures.rest)
