use Rattle.std.proofs.Common.{◌≡◌, ◌<◌, ◌∙◌, ap, sym, arith, get_or, length, List, ℕ}
use Rattle.arrayvec.specs.ArrayVec.{ArrayVec}
use Rattle.std.proofs.lemmas.List.{get_or_default}
use Rattle.xcp_slave.specs.private.PacketRow.{OutboxValue}
use Rattle.xcp_slave.proofs.outbox.Outbox.same.Goals as goal

pub returns-then-not-same_packet : goal.returns-then-not-same_packet
returns-then-not-same_packet c = λ e.
    let i = c.loop-i.i in
    let ours = c.at.result.now in
    let theirs = c.at-in-loop-i.result.now in
    let same : c.args.self.now.packets ≡ c.args.other.now.packets = ap (λ (o : OutboxValue). o.packets) e in
    let there : i < length c.args.other.now.packets = omega (arith, c.loop-i-test.true, c.count.ensures, ap length same) in
    c.if-not-same_packet.ensures {u = tt} (c.at.ensures ∙ ap (λ (xs : List (ArrayVec ℕ)). get_or xs i ours) same ∙ get_or_default c.args.other.now.packets i ours theirs there ∙ sym c.at-in-loop-i.ensures)
