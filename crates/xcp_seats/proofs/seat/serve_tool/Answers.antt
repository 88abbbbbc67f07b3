use denote.Param.Send.{sendable}
use Rattle.std.proofs.Common.{ℕ, List, [], inr, ap, subst, ◌∙◌}
use Rattle.std.proofs.Crossing.{crosses}
use Rattle.std.specs.Prelude.{Option, Some, None}
use Rattle.xcp_framing.specs.CountedCalls.{StreamPlace}
use Rattle.xcp_connection.specs.Connections.{ServesConnection}
use Rattle.xcp_seats.proofs.NotingLemmas.{noting_crosses}
use Rattle.xcp_seats.proofs.mail.Outgoing.TheSendSync as outgoing
use Rattle.xcp_seats.specs.Seating.{had}
use Rattle.xcp_seats.proofs.seat.serve_tool.Goals as goal

pub attend-attended-requires-send-O : goal.attend-attended-requires-send-O
attend-attended-requires-send-O g c κs within = search (sendable, crosses, noting_crosses, outgoing.the_send) depth 12

pub returns-in-Ok : goal.returns-in-Ok
returns-in-Ok g c =
    let m = c.args.place.now.max_cto in
    let d = c.in-Ok.field-0 in
    let from = ap (λ w. record { left = None; read = w.read }) c.new.ensures in
    let before = ap (λ w. Some w.inner.taken.bytes) c.new-3.ensures ∙ c.new-2.ensures in
    let to : StreamPlace = record { left = None; read = d.reader.value.read } in
    let after : Option (List ℕ) = Some d.writer.value.inner.taken.bytes in
    inr (record {
      read = d.reader.value.read;
      written = d.writer.value.inner.taken.bytes;
      serves = subst (λ (p : StreamPlace). ServesConnection m d.outcome p to (Some []) after (had c.args.tool.member) (had d.tool.member) (had c.args.pump.member) (had d.pump.member)) from
          (subst (λ (b : Option (List ℕ)). ServesConnection m d.outcome (record { left = None; read = c.new.result.read }) to b after (had c.args.tool.member) (had d.tool.member) (had c.args.pump.member) (had d.pump.member)) before c.in-Ok.ensures.serves);
      same_tool = c.in-Ok.ensures.stays.0;
      same_pump = c.in-Ok.ensures.stays.1;
    })
