use Rattle.std.proofs.Common.{length, refl, ap, arith}
use Rattle.xcp_locked.proofs.PairedListLemmas.{dealt_more}
use Rattle.xcp_stay.proofs.TeamLemmas.{tasks_more}
use Rattle.xcp_stay.proofs.dealing.make_tickers.Goals as goal

pub loop-task-preserved : goal.loop-task-preserved
loop-task-preserved g c =
    let at = c.loop-task in
    let was = at.invariant in
    let pushed = c.push_reserved.ensures.len in
    let room = c.push_reserved.ensures.capacity in
    let members = (c.in-Some.ensures {u = tt}).items in
    let readers = (c.in-Some-next.ensures {u = tt}).items in (
      omega (arith, pushed, was.0),
      omega (arith, room, was.1),
      omega (arith, ap length members, was.2),
      omega (arith, ap length readers, was.3),
      dealt_more (λ t. t.caller) at.tickers.items _ _ c.in-Some.member _ _ _ was.4 members refl c.push_reserved.ensures.items,
      dealt_more (λ t. t.reader) at.tickers.items _ _ c.in-Some-next.reader _ _ _ was.5 readers refl c.push_reserved.ensures.items,
      tasks_more 0 at.tickers.items _ _ was.6 (omega (arith, was.0)) c.push_reserved.ensures.items,
    )
