-- Lists that contracts alone see.
use Rattle.std.specs.Prelude.{ℕ, List}

-- the list, and how many more it can take before it needs more memory
pub record NotedValue (A : Type 0) : Type 0 where
  pub list : List A
  pub room : ℕ
