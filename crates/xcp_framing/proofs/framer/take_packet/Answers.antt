use Rattle.std.proofs.Common.{◌≡◌, ◌≤◌, ◌+◌, ◌∷◌, [], List, ℕ, ap, sym, ◌∙◌, length, drop, arith}
use Rattle.std.proofs.lemmas.Grind.{common_steps}
use Rattle.xcp_framing.specs.Wire.{len_of}
use Rattle.xcp_framing.proofs.PartialFrameLemmas.{held_short, held_bad, held_packet}
use Rattle.xcp_framing.proofs.framer.take_packet.Goals as goal

pub returns-then-length-from-clause-brings : goal.returns-then-length-from-clause-brings
returns-then-length-from-clause-brings c = (held_bad c.args.max_cto c.args.held.now.items (grind arith)).0

pub returns-then-length-from-clause-leaves : goal.returns-then-length-from-clause-leaves
returns-then-length-from-clause-leaves c = (held_bad c.args.max_cto c.args.held.now.items (grind arith)).1

pub returns-then-len-length-clause-brings : goal.returns-then-len-length-clause-brings
returns-then-len-length-clause-brings c = (held_short c.args.max_cto c.args.held.now.items (grind arith)).0

pub returns-then-len-length-clause-leaves : goal.returns-then-len-length-clause-leaves
returns-then-len-length-clause-leaves c = (held_short c.args.max_cto c.args.held.now.items (grind arith)).1

pub returns-clause-brings : goal.returns-clause-brings
returns-clause-brings c =
    let a = c.args.held.now.items in
    let fits : len_of a ≤ c.args.max_cto = grind arith in
    let whole : length a ≡ 4 + len_of a = grind arith in
    let same : c.try_extend_from_slice.new.self.items ≡ drop 4 a = grind (arith, common_steps) in
    (held_packet _ _ fits whole (grind (arith, common_steps, same))).0 ∙ ap (λ (p : List ℕ). p ∷ []) (sym same)

pub returns-clause-leaves : goal.returns-clause-leaves
returns-clause-leaves c =
    let a = c.args.held.now.items in
    let fits : len_of a ≤ c.args.max_cto = grind arith in
    let whole : length a ≡ 4 + len_of a = grind arith in
    let same : c.try_extend_from_slice.new.self.items ≡ drop 4 a = grind (arith, common_steps) in
    c.clear-2.ensures ∙ (held_packet _ _ fits whole (grind (arith, common_steps, same))).1
