use Rattle.std.specs.Prelude.{◌≡◌}
use Rattle.xcp_stay.proofs.ending.hand_all_over.Given as goal

abbrev pub invariant-loop-member : goal.invariant-loop-member
invariant-loop-member g l = (l.resident ≡ l.initial.resident) × (l.members ≡ l.fn.members)
