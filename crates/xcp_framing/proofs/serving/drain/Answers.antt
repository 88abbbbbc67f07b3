use Rattle.std.proofs.Common.{◌≢◌, [], refl, ◌∙◌, arith, Err}
use Rattle.xcp_slave.specs.declared.Exchange.{Exchange}
use Rattle.xcp_slave.specs.declared.Request.TheVariants as requests
use Rattle.xcp_slave.specs.AnswerInBytes.{answer_in}
use Rattle.xcp_framing.specs.Serve.{packets_in_answer}
use Rattle.xcp_framing.specs.private.GrowingOutput.{fine}
use Rattle.xcp_framing.proofs.ExchangeLemmas.{grows_more, grows_sent, passed_on, drains_one}
use Rattle.xcp_framing.proofs.serving.drain.Goals as goal

pub returns-in_err-send_told-clause-drains : goal.returns-in_err-send_told-clause-drains
returns-in_err-send_told-clause-drains g c =
    let x : Exchange = record { request = requests.Drain; answer = answer_in c.in_ok-told.told c.submit_into.new.packet } in
    let gave : packets_in_answer (answer_in c.in_ok-told.told c.submit_into.new.packet) ≢ [] = c.has_packets.ensures.some c.submit_into.new.packet c.if-not-has_packets.false in
    rw (passed_on c.from_residual-in_err-send_told.result c.in_err-send_told.field-0.0 c.from_residual-in_err-send_told.ensures.1)
    (grows_more (Err c.in_err-send_told.field-0.0) {to = c.send_told.new.sender.sent} c.loop-drain.invariant.drains
    (grows_sent (Err c.in_err-send_told.field-0.0) x c.in_ok-told.ensures.ok c.in_err-send_told.ensures.sends tt)
    (λ xs ys f e. let d = drains_one c.loop-drain._drain x refl gave xs ys f e in (d.0, omega (arith, d.1, c.loop-drain-test.true))))

pub loop-drain-preserved : goal.loop-drain-preserved
loop-drain-preserved g c =
    let x : Exchange = record { request = requests.Drain; answer = answer_in c.in_ok-told.told c.submit_into.new.packet } in
    let gave : packets_in_answer (answer_in c.in_ok-told.told c.submit_into.new.packet) ≢ [] = c.has_packets.ensures.some c.submit_into.new.packet c.if-not-has_packets.false in
    record {
      drains = grows_more fine c.loop-drain.invariant.drains
          (grows_sent fine x c.in_ok-told.ensures.ok c.in_ok-send_told.ensures.sends c.in_ok-send_told.ensures.counts)
          (drains_one c.loop-drain._drain x refl gave);
      bound = omega (arith, c.in_ok-send_told.ensures.most, c.loop-drain.invariant.bound);
      unfailed = c.in_ok-send_told.ensures.fine ∙ c.loop-drain.invariant.unfailed;
    }
