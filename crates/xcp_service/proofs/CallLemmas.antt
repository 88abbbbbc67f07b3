-- What is noted behind a call of a seat.
use Rattle.std.proofs.Common.{◌≡◌, ◌⊎◌, inl, inr, ℕ, List, ap, sym, subst, ◌∙◌}
use Rattle.xcp_memory.specs.Layout.{LayoutValue}
use Rattle.xcp_slave.specs.Outcomes.{Answer}
use Rattle.xcp_slave.specs.declared.Request.{Request}
use Rattle.xcp_locked.specs.declared.receipt.Receipt.{Receipt}
use Rattle.xcp_service.specs.Calls.{Calls, CallsFor, IsPublishedBehind}
use Rattle.xcp_service.specs.Residents.{ResidentValue, with_a_cut}
use Rattle.xcp_service.specs.Sessions.{noted}

same_sessions : (x y : ResidentValue) → (x ≡ y) ⊎ (x ≡ with_a_cut y) → x.sessions ≡ y.sessions
same_sessions x y (inl e) = ap (λ (r : ResidentValue). r.sessions) e
same_sessions x y (inr e) = ap (λ (r : ResidentValue). r.sessions) e

-- a call behind which it is noted whose the session is then is a call of the seat
pub calls_for : (seat number : ℕ) (q : Request) (a : Answer) (old called new : ResidentValue) → Calls number q a old called → new ≡ record called { sessions = noted seat q a called.sessions } → CallsFor seat number q a old new
calls_for seat number q a old called new h is = record {
  called = called;
  calls = h;
  notes = is ∙ ap (λ (ss : List ℕ). record called { sessions = noted seat q a ss }) (same_sessions called h.done h.ends ∙ (h.sessions ∙ same_sessions h.begun old h.begins));
}

-- what was published behind a call stays so, whatever sessions are noted
pub published_for : (layout : LayoutValue) (number : ℕ) (call : Receipt) (called new : ResidentValue) (seats : List ℕ) → IsPublishedBehind layout number call called → new ≡ record called { sessions = seats } → IsPublishedBehind layout number call new
published_for layout number call called new seats h is = subst (IsPublishedBehind layout number call) (sym is) (record {
  before = h.before;
  base = h.base;
  reached = h.reached;
  earlier = h.earlier;
  place = h.place;
  first = h.first;
  images = h.images;
  all_images = h.all_images;
})
