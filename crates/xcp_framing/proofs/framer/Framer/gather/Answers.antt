use Rattle.std.proofs.Common.{◌≡◌, [], ◌++◌, take, arith}
use Rattle.std.proofs.lemmas.Grind.{common_steps}
use Rattle.xcp_framing.proofs.ExchangeLemmas.{cons≢nil}
use Rattle.xcp_framing.proofs.FrameCutLaws.{rest_unfinished, unfinished_nil}
use Rattle.xcp_framing.proofs.PartialFrameLemmas.{feeds_once, moves_on, packet_moves_on}
use Rattle.xcp_framing.proofs.framer.Framer.gather.Goals as goal

pub invariant_of-self : goal.invariant_of-self
invariant_of-self c = rw (c.take_packet-brought.ensures.leaves) (rest_unfinished _ [] _ (unfinished_nil _))

pub returns-clause-feeds : goal.returns-clause-feeds
returns-clause-feeds c =
    let a = c.try_extend_from_slice.new.self.items in
    let grown : a ≡ c.self.inside.held.items ++ take c.min-used.result c.args.piece.now = grind (arith, common_steps) in
    let asked = c.min-used.ensures in
    rw (← c.self.view_is) (feeds_once _ _ _ _ a (rw (c.missing.ensures, c.deref.ensures.0) at asked) grown c.take_packet-brought.ensures.brings c.take_packet-brought.ensures.leaves)

pub returns-clause-packet_moves : goal.returns-clause-packet_moves
returns-clause-packet_moves c = λ some.
    let a = c.try_extend_from_slice.new.self.items in
    let grown : a ≡ c.self.inside.held.items ++ take c.min-used.result c.args.piece.now = grind (arith, common_steps) in
    let asked = c.min-used.ensures in
    packet_moves_on _ _ _ c.args.piece.now c.self.invariant (feeds_once _ _ _ c.args.piece.now a (rw (c.missing.ensures, c.deref.ensures.0) at asked) grown c.take_packet-brought.ensures.brings c.take_packet-brought.ensures.leaves) (λ e. cons≢nil (rw some at e))

pub returns-clause-moves : goal.returns-clause-moves
returns-clause-moves c = λ fine some.
    let asked = c.min-used.ensures in
    let of_fields = rw (← c.self.view_is) at fine in
    moves_on _ _ _ _ c.self.invariant (rw (c.missing.ensures, c.deref.ensures.0) at asked) of_fields some
