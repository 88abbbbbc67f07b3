use Rattle.std.proofs.Common.{◌≡◌, ◌∙◌, ◌++◌, List, ℕ, ap, drop, length}
use Rattle.std.specs.Prelude.{vec_capacity}
use Rattle.std.proofs.lemmas.List.{drop-append-le}
use Rattle.arrayvec.specs.ArrayVec.{ArrayVec}
use Rattle.xcp_memory.specs.ClassLimits.{limits_of}
use Rattle.xcp_daq.specs.Sample.{sampled}
use Rattle.xcp_slave.specs.private.PacketRow.{IsRow, OutboxValue}
use Rattle.xcp_slave.proofs.outbox.Outbox.sample.Goals as goal

pub returns-clause-packets : goal.returns-clause-packets
returns-clause-packets c =
    let s = c.shorten-self-inside in
    let new : List (ArrayVec ℕ) = sampled c.args.channel c.args.time c.args.pages.now c.args.daq.now in
    let row : IsRow (limits_of c.self.inside.class) s.result (length s.new.row.items) (vec_capacity s.new.row) = s.ensures.row (limits_of c.self.inside.class) c.self.invariant in
    let waits = ap (drop s.result) c.sample.ensures.packets ∙ drop-append-le s.result s.new.row.items new row.inside ∙ ap (λ (ps : List (ArrayVec ℕ)). ps ++ new) s.ensures.waiting in
    ap (λ (ps : List (ArrayVec ℕ)). record { class = c.self.inside.class; packets = ps }) waits
    ∙ ap (λ (o : OutboxValue). record { class = o.class; packets = o.packets ++ new }) c.self.view_is
