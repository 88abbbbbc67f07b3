use Rattle.std.proofs.Common.{◌≡◌, length, refl, ap, arith}
use Rattle.xcp_locked.proofs.PairedListLemmas.{all_more, dealt_more}
use Rattle.xcp_stay.proofs.TeamLemmas.{seats_more}
use Rattle.xcp_stay.proofs.dealing.make_seats.Goals as goal

pub loop-number-preserved : goal.loop-number-preserved
loop-number-preserved g c =
    let at = c.loop-number in
    let was = at.invariant in
    let pushed = c.push_reserved.ensures.len in
    let room = c.push_reserved.ensures.capacity in
    let tools = (c.in-Some.ensures {u = tt}).items in
    let pumps = (c.in-Some-next.ensures {u = tt}).items in (
      omega (arith, pushed, was.0),
      omega (arith, room, was.1),
      omega (arith, ap length tools, was.2),
      omega (arith, ap length pumps, was.3),
      dealt_more (λ s. s.tool) at.seats.items _ _ c.in-Some.tool _ _ _ was.4 tools refl c.push_reserved.ensures.items,
      dealt_more (λ s. s.pump) at.seats.items _ _ c.in-Some-next.pump _ _ _ was.5 pumps refl c.push_reserved.ensures.items,
      all_more (λ s. s.max_cto ≡ c.args.max_cto) at.seats.items _ _ was.6 refl c.push_reserved.ensures.items,
      seats_more 0 at.seats.items _ _ was.7 (omega (arith, was.0)) c.push_reserved.ensures.items,
    )
