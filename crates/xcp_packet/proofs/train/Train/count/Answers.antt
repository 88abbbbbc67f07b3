use Rattle.std.proofs.Common.{◌≡◌, ◌∙◌, ◌-◌, ◌+◌, ◌/◌, ap, sym, length, List, ℕ}
use Rattle.xcp_packet.specs.PacketTrains.{packets_in}
use Rattle.xcp_packet.specs.BlockPacketLemmas.{block_count}
use Rattle.xcp_packet.proofs.train.Train.count.Goals as goal

pub returns-in-Some-clause-count : goal.returns-in-Some-clause-count
returns-in-Some-clause-count c =
    rw (← c.self.view_is, c.in-Some.is, c.len.ensures.value, c.size.ensures.value) (sym (block_count c.in-Some.width c.self.inside.bytes.items))
