use Rattle.std.proofs.Common.{ap, ◌∙◌, ◌++◌, ◌∷◌, []}
use Rattle.xcp_slave.specs.declared.Exchange.{Exchange}
use Rattle.xcp_slave.specs.AnswerInBytes.{answer_in}
use Rattle.xcp_slave.specs.AskedRequest.{request_asked}
use Rattle.xcp_trace.specs.ExchangeSpelling.{IsExchangeString, TraceValue}
use Rattle.xcp_trace.proofs.SpellingLaws.{all_more, exchange_pushed}
use Rattle.xcp_trace.proofs.trace.Trace.push.Goals as goal

pub invariant_of-self : goal.invariant_of-self
invariant_of-self c = rw (c.push_headed.ensures) (all_more IsExchangeString _ _ c.self.invariant c.spell-spelled.ensures.fits)

pub returns : goal.returns
returns c =
    let x : Exchange = record { request = request_asked c.args.asked; answer = answer_in c.args.told.now c.args.packet.now } in
    rw (c.push_headed.ensures) (exchange_pushed c.self.inside.tape.strings _ x c.spell-spelled.ensures.string ∙ ap (λ (t : TraceValue). t.exchanges ++ x ∷ []) c.self.view_is)
