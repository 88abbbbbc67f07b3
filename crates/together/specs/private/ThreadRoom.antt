-- Room for threads.
use Rattle.std.specs.Prelude.{◌≡◌, ◌≤◌, ℕ, vec_len, vec_capacity}
use Rattle.together.specs.declared.room.Room.{Room}

-- There is room for the handles and the results of n works, and nothing else stands there.
pub record HasThreadRoom {H T : Type 0} (r : Room H T) (n : ℕ) : Type 0 where
  pub no_handle : vec_len r.handles ≡ 0
  pub handles : n ≤ vec_capacity r.handles
  pub no_result : vec_len r.results ≡ 0
  pub results : n ≤ vec_capacity r.results
