use Rattle.std.proofs.Common.{◌+◌, ◌∙◌, ℕ, ap, arith, length}
use Rattle.std.specs.Arc.{arc_value}
use Rattle.xcp_slave.specs.AnswerInBytes.{answer_in}
use Rattle.xcp_slave.specs.AskedRequest.{request_asked}
use Rattle.xcp_slave.specs.SlaveValue.{layout_of}
use Rattle.xcp_slave.proofs.LayoutKeptLemmas.{answers-layout}
use Rattle.xcp_locked.specs.LockedSlave.{LockedValue}
use Rattle.xcp_locked.proofs.ChapterLemmas.{all_goes_on}
use Rattle.xcp_locked.proofs.JournalLemmas.{one_more, run_goes_on}
use Rattle.xcp_locked.proofs.PublicationLemmas.{kept_goes_on}
use Rattle.xcp_locked.proofs.locked.Locked.submit_into.Goals as goal

pub invariant_of-self-2 : goal.invariant_of-self-2
invariant_of-self-2 g c =
    let more = one_more c.self.inside.journal.entries _ _ _ c.make_room.ensures.entries c.execute-told.ensures.journal in (
      run_goes_on (arc_value c.self.inside.base) c.self.inside.slave c.self.inside.journal.entries _ c.caller.inside.number (request_asked c.args.asked) (answer_in c.execute-told.result c.execute-told.new.packet) c.execute-told.new.slave more.0 c.self.invariant.0 c.execute-told.ensures.answers,
      omega (arith, more.1, c.add.ensures.total, c.audit.ensures.total, c.self.invariant.1),
      omega (arith, more.1, c.if-len-ge-JOURNAL.false, c.len.ensures),
      answers-layout c.self.inside.slave (request_asked c.args.asked) (answer_in c.execute-told.result c.execute-told.new.packet) c.execute-told.new.slave c.execute-told.ensures.answers ∙ c.self.invariant.3,
      kept_goes_on g.N.Name.bank (arc_value c.self.inside.base) c.self.inside.journal.entries _ c.self.inside.slave c.caller.inside.number (request_asked c.args.asked) (answer_in c.execute-told.result c.execute-told.new.packet) c.execute-told.new.slave (c.len-at.result + 1) c.self.inside.publisher c.make_room.new.publisher _ more.0 c.self.invariant.0 c.execute-told.ensures.answers (ap (λ (n : ℕ). n + 1) (c.len-at.ensures ∙ ap length c.make_room.ensures.entries)) c.make_room.ensures.writer c.make_room.ensures.places c.make_room.ensures.last c.make_room.ensures.first c.execute-told.ensures.offers c.self.invariant.4,
      c.self.invariant.5,
      c.self.invariant.6,
      c.self.invariant.7,
      (let f = c.execute-told.ensures.offers.first ∙ c.make_room.ensures.first in let low = c.self.invariant.8 in omega (arith, f, low)),
      all_goes_on g.N.Name.layout c.self.inside.before (arc_value c.self.inside.base) c.self.inside.journal.entries _ c.self.inside.slave c.caller.inside.number (request_asked c.args.asked) (answer_in c.execute-told.result c.execute-told.new.packet) c.execute-told.new.slave (c.len-at.result + 1) c.self.inside.publisher c.make_room.new.publisher _ more.0 c.self.invariant.0 c.execute-told.ensures.answers c.make_room.ensures.writer c.make_room.ensures.last c.self.invariant.4.last c.execute-told.ensures.offers c.self.invariant.9,
    )

pub returns-clause-layout : goal.returns-clause-layout
returns-clause-layout g c = answers-layout c.self.inside.slave (request_asked c.args.asked) (answer_in c.execute-told.result c.execute-told.new.packet) c.execute-told.new.slave c.execute-told.ensures.answers ∙ ap (λ (d : LockedValue). layout_of d.slave) c.self.view_is
