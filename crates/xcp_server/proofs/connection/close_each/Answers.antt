use Rattle.std.proofs.Common.{◌∷◌, [], ◌++◌, length, ap, sym, subst, arith}
use Rattle.xcp_connection.specs.Closing.{AreOfOneOutlet, IsClosingOf}
use Rattle.xcp_server.specs.private.ConnectionParts.{IsEndOf}
use Rattle.std.specs.List.{AllZip}
use Rattle.xcp_server.proofs.ConnectionOutcomeLemmas.{each_of_one, each_of_others}
use Rattle.xcp_locked.proofs.PairedListLemmas.{turn, finish, zip_more}
use Rattle.xcp_server.proofs.connection.close_each.Goals as goal

pub close-requires : goal.close-requires
close-requires g c =
    let one = each_of_one AreOfOneOutlet _ _ c.in-Some.one c.loop-one.invariant.3 c.in-Some.ensures.steps.0 in
    subst AreOfOneOutlet (sym c.with_callers.ensures) (record { replies = one.replies; samples = one.samples; reply_side = one.reply_side; sample_side = one.sample_side })

pub loop-one-preserved : goal.loop-one-preserved
loop-one-preserved g c =
    let at = c.loop-one in
    let was = at.invariant in
    let steps = c.in-Some.ensures.steps in
    let short = ap length steps.0 in
    let gone = steps.1 in
    let pushed = c.push_reserved.ensures.len in
    let room = c.push_reserved.ensures.capacity in (
      turn at.yielded _ _ _ c.in-Some.one was.0 steps.0,
      omega (arith, short, gone, was.1),
      omega (arith, gone, pushed, room, was.2),
      each_of_others AreOfOneOutlet _ _ c.in-Some.one was.3 steps.0,
      subst (λ z. AllZip IsEndOf (at.yielded ++ c.in-Some.one ∷ []) z) (sym c.push_reserved.ensures.items) (zip_more IsEndOf at.yielded at.closed.items c.in-Some.one _ was.4 (subst (λ d. IsClosingOf d c.close.result) c.with_callers.ensures c.close.ensures)),
    )

pub returns : goal.returns
returns g c =
    let at = c.loop-one in
    let was = at.invariant in
    subst (λ xs. AllZip IsEndOf xs at.closed.items) (finish at.yielded _ _ c.args.parted.items _ was.0 was.1 c.in-None.ensures.steps.0 c.into_iter-one-iterator.ensures.into_iter_gives.0) was.4
