use Rattle.std.proofs.Common.{◌≡◌, ◌+◌, ◌∙◌, [], arith}
use Rattle.xcp_packet.specs.PacketTrains.{block_packets}
use Rattle.xcp_packet.specs.BlockPacketLemmas.{block_most}
use Rattle.xcp_framing.proofs.ExchangeLemmas.{on_ok, part_counted, part_cut, part_last, part_more_sent, part_room, passed_on}
use Rattle.xcp_framing.proofs.serving.send_block.Goals as goal

pub send-requires : goal.send-requires
send-requires g c =
    omega (arith, c.requires.room, part_room c.cut.new.packet.items [] c.pieces.invariant.part c.in-None.ensures.cut, block_most c.args.width c.args.bytes.now (rw c.size-least.ensures.value at c.size-least.ensures.least) c.requires.short)

pub send-requires-in-Some : goal.send-requires-in-Some
send-requires-in-Some g c =
    omega (arith, c.requires.room, part_room c.cut.new.packet.items (block_packets c.args.width c.in-Some.rest.now) c.pieces.invariant.part c.in-Some.ensures.cut, block_most c.args.width c.args.bytes.now (rw c.size-least.ensures.value at c.size-least.ensures.least) c.requires.short)

pub returns-in-None-clause-sends : goal.returns-in-None-clause-sends
returns-in-None-clause-sends g c = part_last c.send.result _ c.cut.new.packet.items c.pieces.invariant.part c.in-None.ensures.cut c.send.ensures.sends

pub returns-in-None-clause-most : goal.returns-in-None-clause-most
returns-in-None-clause-most g c =
    on_ok c.send.result c.send.ensures.counts
    (λ (n : c.send.new.self.sent ≡ c.pieces.sender.sent + 1).
    omega (arith, part_counted c.cut.new.packet.items [] c.pieces.invariant.part c.in-None.ensures.cut n, block_most c.args.width c.args.bytes.now (rw c.size-least.ensures.value at c.size-least.ensures.least) c.requires.short))

pub returns-in_err-send-in-Some-clause-sends : goal.returns-in_err-send-in-Some-clause-sends
returns-in_err-send-in-Some-clause-sends g c =
    rw (passed_on c.from_residual.result c.in_err-send-in-Some.field-0.0 c.from_residual.ensures.1)
    (part_cut (Unit {0}) _ c.in_err-send-in-Some.field-0.0 c.cut.new.packet.items (block_packets c.args.width c.in-Some.rest.now) c.pieces.invariant.part c.in-Some.ensures.cut c.in_err-send-in-Some.ensures.err.0 c.in_err-send-in-Some.ensures.sends)

pub pieces-preserved : goal.pieces-preserved
pieces-preserved g c = record {
  part = part_more_sent c.cut.new.packet.items (block_packets c.args.width c.in-Some.rest.now) c.pieces.invariant.part c.in-Some.ensures.cut c.in_ok-send-in-Some.ensures.sends c.in_ok-send-in-Some.ensures.counts;
  short = omega (arith, c.in-Some.ensures.less, c.pieces.invariant.short);
  unfailed = c.in_ok-send-in-Some.ensures.fine ∙ c.pieces.invariant.unfailed;
}
