use Rattle.std.proofs.Common.{rules, ◌≡◌, false}
use Rattle.xcp_outlet.proofs.SendingLemmas.{passed, added}
use Rattle.xcp_outlet.proofs.line.Line.add_packet.Goals as goal

pub returns-then-self : goal.returns-then-self
returns-then-self g c before failures taken from done p = passed c.make_room.new.self taken from done c.args.packet.now c.if-self.true (c.make_room.ensures.goes_on before failures _ p)

pub returns : goal.returns
returns g c before failures taken from done p =
    let well : c.make_room.new.self.broken ≡ false = search rules in
    added c.make_room.new.self taken from done c.args.packet.now _ well c.push.ensures.held c.push.ensures.counts (c.make_room.ensures.goes_on before failures _ p)
