use Rattle.std.proofs.Common.{◌≡◌, ◌≤◌, ◌<◌, ◌∙◌, ◌∷◌, [], arith, ap, sym, length, List, ℕ}
use Rattle.xcp_packet.specs.PacketTrains.{block_packets}
use Rattle.xcp_packet.specs.BlockPacketLemmas.{block_of_one}
use Rattle.xcp_packet.proofs.train.Train.cut.Goals as goal

pub returns-then-bytes-size : goal.returns-then-bytes-size
returns-then-bytes-size c =
    let v = c.size.ensures.value in
    let least = c.size.ensures.least in
    let short = c.if-bytes-size.true in
    c.one.ensures ∙ ap (λ (xs : List ℕ). xs ∷ []) c.write_bytes.ensures ∙ sym (block_of_one c.args.width c.args.bytes.now (omega arith) (omega arith))
