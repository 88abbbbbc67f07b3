use Rattle.std.proofs.Common.{ap, arith, ◌∙◌, ◌++◌, ◌∷◌, []}
use Rattle.xcp_slave.specs.declared.Exchange.{Exchange}
use Rattle.xcp_slave.specs.AnswerInBytes.{answer_in}
use Rattle.xcp_slave.specs.AskedRequest.{request_asked}
use Rattle.xcp_trace.specs.declared.journal.Entry.{Entry}
use Rattle.xcp_trace.specs.EntrySpelling.{IsEntryString, JournalValue}
use Rattle.xcp_trace.proofs.SpellingLaws.{all_more, entry_pushed}
use Rattle.xcp_trace.proofs.journal.Journal.push.Goals as goal

pub invariant_of-self : goal.invariant_of-self
invariant_of-self c =
    rw (c.push_called.ensures)
    (all_more IsEntryString _ _ c.self.invariant (record { caller = omega arith; exchange = c.spell-parts.ensures.fits }))

pub returns : goal.returns
returns c =
    let x : Exchange = record { request = request_asked c.args.asked; answer = answer_in c.args.told.now c.args.packet.now } in
    let e : Entry = record { caller = c.args.caller; exchange = x } in
    rw (c.push_called.ensures) (entry_pushed c.self.inside.tape.strings c.args.caller _ x c.spell-parts.ensures.string ∙ ap (λ (j : JournalValue). j.entries ++ e ∷ []) c.self.view_is)
