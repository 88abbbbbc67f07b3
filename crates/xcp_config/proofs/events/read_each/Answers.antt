use Rattle.std.proofs.Common.{map, ◌∙◌, ap}
use Rattle.std.proofs.lemmas.Result.{err_from_is_err_and}
use Rattle.toml.specs.View.{view}
use Rattle.xcp_config.specs.TableChecks.{event_checks}
use Rattle.xcp_config.specs.private.PartsRead.{event_read, event_written}
use Rattle.xcp_config.proofs.CheckLemmas.{or_so, member_passed, member_failed}
use Rattle.xcp_config.proofs.ArrayMemberLemmas.{seen, one_more_read}
use Rattle.xcp_config.proofs.events.read_each.Goals as goal

pub returns-in_err-part-clause-refused : goal.returns-in_err-part-clause-refused
returns-in_err-part-clause-refused c =
    let ds = map view c.args.members.now in
    let x = c.index-members-i.result in
    let m = seen view c.args.members.now c.loop-i.i x c.loop-i-test.true c.index-members-i.is in
    let p = err_from_is_err_and c.from_residual.result c.from_residual.ensures.1 in
    rw (p.1, p.2) (or_so c.in_err-part.ensures.refused (λ k. c.loop-i.invariant.checked ∙ member_failed event_checks ds c.loop-i.i (view x) _ m.below m.is k))

pub loop-i-preserved : goal.loop-i-preserved
loop-i-preserved c =
    let ds = map view c.args.members.now in
    let i = c.loop-i.i in
    let x = c.index-members-i.result in
    let m = seen view c.args.members.now i x c.loop-i-test.true c.index-members-i.is in
    record {
      checked = c.loop-i.invariant.checked ∙ member_passed event_checks ds i (view x) m.below m.is c.in_ok-part.ensures.passes;
      read = ap (map event_read) c.in_ok-push.ensures.items ∙ one_more_read event_read event_written c.loop-i.parts.items ds i c.in_ok-part.part (view x) m.below m.is c.loop-i.invariant.read c.in_ok-part.ensures.read;
    }
