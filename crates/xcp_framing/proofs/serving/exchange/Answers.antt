use Rattle.std.proofs.Common.{[], ◌∷◌, refl, ap}
use Rattle.xcp_slave.specs.declared.Exchange.{Exchange}
use Rattle.xcp_slave.specs.declared.Request.TheVariants as requests
use Rattle.xcp_slave.specs.AnswerInBytes.{answer_in}
use Rattle.xcp_framing.specs.Serve.{refused_with}
use Rattle.xcp_framing.specs.private.GrowingOutput.{fine}
use Rattle.xcp_framing.proofs.ExchangeLemmas.{grows_more, grows_sent, grows_refused, passed_on, answers_none, answers_one}
use Rattle.xcp_framing.proofs.ServeRefusalLemmas.{on_refusal, on_refusal_all, refused_command, refused_more, asks_drain}
use Rattle.xcp_framing.proofs.serving.exchange.Goals as goal

pub returns-in_err-told-clause-answers : goal.returns-in_err-told-clause-answers
returns-in_err-told-clause-answers g c =
    rw (passed_on c.from_residual.result (refused_with c.in_err-told.field-0.0) c.from_residual.ensures.1)
    (grows_refused _ _ (answers_none c.in_err-told.field-0.0 _) (ap g.S.Station.exchanges c.in_err-told.ensures.err))

pub returns-clause-answers : goal.returns-clause-answers
returns-clause-answers g c =
    let x : Exchange = record { request = requests.Command c.args.command.now; answer = answer_in c.in_ok-told.told c.submit_into.new.packet } in
    grows_more c.drain.result
    (grows_sent fine x (rw (c.as_slice.ensures.value) at c.in_ok-told.ensures.ok) c.in_ok-send_told.ensures.sends c.in_ok-send_told.ensures.counts)
    c.drain.ensures.drains (answers_one c.drain.result c.args.command.now.items x refl c.drain.ensures.stops)

pub returns-in_err-told-clause-refused : goal.returns-in_err-told-clause-refused
returns-in_err-told-clause-refused g c =
    rw (passed_on c.from_residual.result (refused_with c.in_err-told.field-0.0) c.from_residual.ensures.1)
    (on_refusal (Unit {0}) c.in_err-told.field-0.0 _ (refused_command _ _ _ c.args.command.now.items c.args.station.now (ap g.S.Station.exchanges c.in_err-told.ensures.err) (rw (c.as_slice.ensures.value) at c.in_err-told.ensures.refused)))

pub returns-clause-refused : goal.returns-clause-refused
returns-clause-refused g c =
    let x : Exchange = record { request = requests.Command c.args.command.now; answer = answer_in c.in_ok-told.told c.submit_into.new.packet } in
    on_refusal_all (Unit {0}) c.drain.result _ _ (λ e r. refused_more _ _ e _ _ (x ∷ []) (rw (c.as_slice.ensures.value) at c.in_ok-told.ensures.ok) (asks_drain c.args.command.now.items x refl) r) c.drain.ensures.refused
