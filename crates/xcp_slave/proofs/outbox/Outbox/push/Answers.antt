use Rattle.std.proofs.Common.{◌≡◌, ◌<◌, ◌∙◌, ◌++◌, [], ◌∷◌, List, ℕ, ap, sym, subst, drop, length, arith, length-append}
use Rattle.std.specs.Prelude.{vec_capacity}
use Rattle.std.proofs.lemmas.List.{drop-append-le, length-drop}
use Rattle.arrayvec.specs.ArrayVec.{ArrayVec}
use Rattle.xcp_memory.specs.ClassLimits.{limits_of}
use Rattle.xcp_slave.specs.private.PacketRow.{IsRow, OutboxValue}
use Rattle.xcp_slave.proofs.outbox.Outbox.push.Goals as goal

pub invariant_of-self : goal.invariant_of-self
invariant_of-self c =
    let s = c.shorten-self-inside in
    let row : IsRow (limits_of c.self.inside.class) s.result (length s.new.row.items) (vec_capacity s.new.row) = s.ensures.row (limits_of c.self.inside.class) c.self.invariant in
    let below : length (drop c.self.inside.taken c.self.inside.row.items) < (limits_of c.self.inside.class).packets = subst (λ (o : OutboxValue). length o.packets < (limits_of o.class).packets) (sym c.self.view_is) c.requires in
    let waits = ap length s.ensures.waiting in
    let rest = length-drop s.result s.new.row.items in
    let long = ap length c.push_reserved.ensures.items in
    let one = length-append s.new.row.items (c.args.packet ∷ []) in
    record { inside = omega (arith, row.inside); few = omega (arith, row.inside); room = omega (arith, row.room, c.push_reserved.ensures.capacity) }

pub returns : goal.returns
returns c =
    let s = c.shorten-self-inside in
    let row : IsRow (limits_of c.self.inside.class) s.result (length s.new.row.items) (vec_capacity s.new.row) = s.ensures.row (limits_of c.self.inside.class) c.self.invariant in
    let waits = ap (drop s.result) c.push_reserved.ensures.items ∙ drop-append-le s.result s.new.row.items (c.args.packet ∷ []) row.inside ∙ ap (λ (ps : List (ArrayVec ℕ)). ps ++ c.args.packet ∷ []) s.ensures.waiting in
    ap (λ (ps : List (ArrayVec ℕ)). record { class = c.self.inside.class; packets = ps }) waits
    ∙ ap (λ (o : OutboxValue). record { class = o.class; packets = o.packets ++ c.args.packet ∷ [] }) c.self.view_is
