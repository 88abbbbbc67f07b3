use Rattle.std.proofs.Common.{◌≡◌, ◌∙◌, sym, ap, Option, ℕ}
use Rattle.xcp_packet.specs.private.TrainParts.{parts_same, same_by}
use Rattle.xcp_packet.proofs.train.Train.same.Goals as goal

pub returns-then-not-same_width : goal.returns-then-not-same_width
returns-then-not-same_width c =
    λ e. c.if-not-same_width.ensures (parts_same c.self.inside.width c.other.inside.width c.self.inside.bytes c.other.inside.bytes c.self.invariant c.other.invariant (c.self.view_is ∙ e ∙ sym c.other.view_is)).0

pub returns : goal.returns
returns c =
    rw (← c.self.view_is, ← c.other.view_is) (same_by c.same_packet.result c.self.inside.width c.other.inside.width c.self.inside.bytes c.other.inside.bytes c.self.invariant c.other.invariant c.if-not-same_width.ensures c.same_packet.ensures)
