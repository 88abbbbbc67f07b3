use Rattle.std.proofs.Common.{arith}
use Rattle.xcp_server.proofs.DispatchingLemmas.{each_fresh_more}
use Rattle.xcp_server.proofs.dispatching.open_outlets.Goals as goal

pub loop-one-preserved : goal.loop-one-preserved
loop-one-preserved c =
    let was = c.loop-one.invariant in
    let pushed = c.push_reserved.ensures.len in
    let room = c.push_reserved.ensures.capacity in
    let opened = c.in_ok-outlet.ensures in (
      omega (arith, pushed, was.0),
      omega (arith, room, was.1),
      each_fresh_more c.loop-one.outlets.items c.push_reserved.new.self.items c.in_ok-outlet.field-0 was.2 (record { replies = opened.reply; samples = opened.data }) c.push_reserved.ensures.items,
    )
