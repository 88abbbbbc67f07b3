use Rattle.std.proofs.Common.{refl}
use Rattle.xcp_slave.specs.declared.Exchange.{Exchange}
use Rattle.xcp_slave.specs.AnswerInBytes.{answer_in}
use Rattle.xcp_framing.specs.Serve.{refused_with}
use Rattle.xcp_framing.specs.ServeBy.{command}
use Rattle.xcp_framing.proofs.ExchangeLemmas.{passed_on}
use Rattle.xcp_framing.proofs.PutOutputLemmas.{unput_stops}
use Rattle.xcp_framing.proofs.PutPacketLemmas.{one_lost, one_refused, puts_behind, room_lacks, room_made}
use Rattle.xcp_framing.proofs.serving_by.ByCommandAnswererPutting.answer.Goals as goal

pub returns-in_err-make_room-clause-answers : goal.returns-in_err-make_room-clause-answers
returns-in_err-make_room-clause-answers g c =
    rw (passed_on c.from_residual.result c.in_err-make_room.field-0.0 c.from_residual.ensures.1)
    (room_lacks _ _ _ _ _ _ _ g.met.S.Station.same_refl c.in_err-make_room.field-0.0 c.args.command.now.items _ _ c.in_err-make_room.ensures.err refl c.in_err-make_room.ensures.moves c.make_room.ensures.same)

pub returns-in_err-make_room-clause-stops : goal.returns-in_err-make_room-clause-stops
returns-in_err-make_room-clause-stops g c =
    rw (passed_on c.from_residual.result c.in_err-make_room.field-0.0 c.from_residual.ensures.1) (unput_stops c.in_err-make_room.field-0.0 c.in_err-make_room.ensures.err)

pub returns-in_err-told-clause-answers : goal.returns-in_err-told-clause-answers
returns-in_err-told-clause-answers g c =
    rw (passed_on c.from_residual-in_err-told.result (refused_with c.in_err-told.field-0.0) c.from_residual-in_err-told.ensures.1)
    (puts_behind _ _ _ _ _ _ _ g.met.S.Station.same_trans g.met.E.End.same_trans _ _ _ _ (record { station = c.args.station.now; state = record { sent = c.args.state.now.sent; batch = c.make_room.new.batch }; out = c.make_room.new.end }) _
    (room_made _ _ _ _ _ _ _ g.met.S.Station.same_refl _ _ refl c.in_ok-make_room.ensures.moves c.make_room.ensures.same refl)
    (one_refused _ _ _ _ _ _ _ g.met.S.Station.same_refl g.met.E.End.same_refl c.in_err-told.field-0.0 c.args.command.now.items _ _ c.in_err-told.ensures.err refl refl (rw (c.as_slice.ensures.value) at c.in_err-told.ensures.refused)))

pub returns-in_err-state-clause-answers : goal.returns-in_err-state-clause-answers
returns-in_err-state-clause-answers g c =
    let x : Exchange = record { request = command c.args.command.now.items; answer = answer_in c.in_ok-told.told c.submit_into.new.packet } in
    rw (passed_on c.from_residual-in_err-state.result c.in_err-state.field-0.0 c.from_residual-in_err-state.ensures.1, c.in_err-state.ensures.err)
    (puts_behind _ _ _ _ _ _ _ g.met.S.Station.same_trans g.met.E.End.same_trans _ _ _ _ (record { station = c.args.station.now; state = record { sent = c.args.state.now.sent; batch = c.make_room.new.batch }; out = c.make_room.new.end }) _
    (room_made _ _ _ _ _ _ _ g.met.S.Station.same_refl _ _ refl c.in_ok-make_room.ensures.moves c.make_room.ensures.same refl)
    (one_lost _ _ _ _ _ _ _ x c.args.command.now.items _ _ refl (rw (c.as_slice.ensures.value) at c.in_ok-told.ensures.ok) refl c.in_err-state.ensures.back.0 c.in_err-state.ensures.back.1 c.submit_into.ensures.stays (g.met.E.End.same_refl _)))
