use Rattle.std.proofs.Common.{[], arith}
use Rattle.xcp_packet.specs.PacketTrains.{block_packets}
use Rattle.xcp_packet.specs.BlockPacketLemmas.{block_most}
use Rattle.xcp_framing.proofs.ExchangeLemmas.{put_room}
use Rattle.xcp_framing.proofs.gathering.push_block.Goals as goal

pub overflow_add-result : goal.overflow_add-result
overflow_add-result c =
    omega (arith, put_room c.cut.new.packet.items [] c.pieces.invariant.part c.in-None.ensures.cut, block_most c.args.width c.args.bytes.now (rw c.size-least.ensures.value at c.size-least.ensures.least) c.requires)

pub returns-in-None-clause-most : goal.returns-in-None-clause-most
returns-in-None-clause-most c =
    omega (arith, put_room c.cut.new.packet.items [] c.pieces.invariant.part c.in-None.ensures.cut, block_most c.args.width c.args.bytes.now (rw c.size-least.ensures.value at c.size-least.ensures.least) c.requires)

pub overflow_add-count : goal.overflow_add-count
overflow_add-count c =
    omega (arith, put_room c.cut.new.packet.items (block_packets c.args.width c.in-Some.rest.now) c.pieces.invariant.part c.in-Some.ensures.cut, block_most c.args.width c.args.bytes.now (rw c.size-least.ensures.value at c.size-least.ensures.least) c.requires)
