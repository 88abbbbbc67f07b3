use Rattle.std.proofs.Common.{◌≡◌, ◌≤◌, ◌<◌, ◌+◌, ◌∷◌, [], List, ℕ, drop, take, length, arith, ap, sym}
use Rattle.std.proofs.lemmas.Grind.{common_steps}
use Rattle.xcp_framing.specs.FramerInput.{Feeds}
use Rattle.xcp_framing.specs.Wire.{len_of}
use Rattle.xcp_framing.proofs.PartialFrameLemmas.{feeds_whole}
use Rattle.xcp_framing.proofs.framer.Framer.whole.Goals as goal

pub returns-clause-feeds : goal.returns-clause-feeds
returns-clause-feeds c =
    let n = c.in_ok-length.length in
    let s = c.args.piece.now in
    let m = c.self.inside.max_cto in
    let none : c.self.inside.held.items ≡ [] = grind (arith, common_steps) in
    let there : 4 + n ≤ length s = grind arith in
    let packet : c.try_extend_from_slice.new.self.items ≡ drop 4 (take (4 + n) s) = grind (arith, common_steps) in
    let whole = feeds_whole m n s (grind arith) (grind arith) (grind arith) there in
    rw (← c.self.view_is, none, packet) whole
