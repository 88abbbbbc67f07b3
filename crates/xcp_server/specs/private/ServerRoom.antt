-- Room for what a server gives back.
use Rattle.std.specs.Prelude.{◌≡◌, ◌≤◌, ℕ, [], vec_capacity}
use Rattle.xcp_server.specs.declared.closing.Rooms.{Rooms}
use Rattle.xcp_server.specs.declared.dealing.Ended.{Ended}

-- There is room for so many callers and for what came of so many connections, and nothing stands there yet.
pub record IsEndedRoom {N I O : Type 0} (callers outcomes : ℕ) (r : Ended N I O) : Type 0 where
  pub no_caller : r.callers.items ≡ []
  pub no_pump : r.pumps.items ≡ []
  pub no_outcome : r.outcomes.items ≡ []
  pub nothing_left : r.left.items ≡ []
  pub for_callers : callers ≤ vec_capacity r.callers
  pub for_pumps : outcomes ≤ vec_capacity r.pumps
  pub for_outcomes : outcomes ≤ vec_capacity r.outcomes
  pub for_left : outcomes ≤ vec_capacity r.left

-- There is room for so many callers, ends of connections, workers and readers, and nothing stands there yet.
pub record IsRoom {N I O : Type 0} (callers outcomes workers readers : ℕ) (r : Rooms N I O) : Type 0 where
  pub none_closed : r.closed.items ≡ []
  pub no_worker : r.workers.items ≡ []
  pub no_reader : r.readers.items ≡ []
  pub for_ended : IsEndedRoom callers outcomes r.ended
  pub for_closed : outcomes ≤ vec_capacity r.closed
  pub for_workers : workers ≤ vec_capacity r.workers
  pub for_readers : readers ≤ vec_capacity r.readers
