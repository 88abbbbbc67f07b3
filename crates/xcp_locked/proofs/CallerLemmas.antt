-- Callers of an opening, one by one.
use Rattle.std.proofs.Common.{◌≡◌, ℕ, suc, ◌+◌, [], ◌∷◌, ◌++◌, ap, arith}
use Rattle.xcp_memory.specs.Layout.{LayoutValue}
use Rattle.xcp_locked.specs.Caller.{callers_of, fresh_caller}

-- one more caller
pub callers_of-more : (l : LayoutValue) (n : ℕ) → callers_of l (n + 1) ≡ callers_of l n ++ fresh_caller l n ∷ []
callers_of-more l n = let e : n + 1 ≡ suc n = omega arith in ap (callers_of l) e
