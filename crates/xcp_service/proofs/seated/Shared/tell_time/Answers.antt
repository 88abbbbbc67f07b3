use Rattle.std.proofs.Common.{inl, inr}
use Rattle.xcp_service.proofs.seated.Shared.tell_time.Goals as goal

pub returns-in-Some-time : goal.returns-in-Some-time
returns-in-Some-time g c = elim c.tell_time.ensures [
  | inl nothing ↦ inl nothing
  | inr told ↦ inr (told.0, c.in-Some-time.time, told.1, told.2, told.3)
]
