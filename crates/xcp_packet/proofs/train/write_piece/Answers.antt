use Rattle.std.proofs.Common.{◌≡◌, ◌≤◌, ◌<◌, ◌*◌, ◌∙◌, ◌∷◌, arith, ap, sym, length, List, ℕ, Some}
use Rattle.std.specs.Prelude.{slice_get}
use Rattle.xcp_packet.specs.PacketTrains.{block_packets}
use Rattle.xcp_packet.specs.BlockPacketLemmas.{block_inside, block_piece}
use Rattle.xcp_packet.proofs.train.write_piece.Goals as goal

pub piece_at-requires : goal.piece_at-requires
piece_at-requires c =
    let some = c.size-width.ensures.least in
    let index : c.args.i < length (block_packets c.size-width.result c.args.bytes.now) = rw c.size-width.ensures.value c.requires.index in
    block_inside c.size-width.result c.args.i c.args.bytes.now (omega arith) index

pub returns : goal.returns
returns c =
    let some = c.size-width.ensures.least in
    let index : c.args.i < length (block_packets c.size-width.result c.args.bytes.now) = rw c.size-width.ensures.value c.requires.index in
    let at = block_piece c.size-width.result c.args.i c.args.bytes.now (omega arith) index in
    let told : c.write_bytes.new.packet.items ≡ 0xFF ∷ c.piece_at.result.now = c.write_bytes.ensures in
    rw (told, c.piece_at.ensures.piece, ← c.size-width.ensures.value) at
