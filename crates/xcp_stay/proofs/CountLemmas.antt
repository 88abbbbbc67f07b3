-- How many callers an opening gives out.
use Rattle.std.proofs.Common.{◌≡◌, ◌∷◌, [], ℕ, zero, suc, length, length-append, refl, arith}
use Rattle.xcp_memory.specs.Layout.{LayoutValue}
use Rattle.xcp_locked.specs.Caller.{callers_of, fresh_caller}

-- it gives out as many as were asked for
pub length-callers_of : (l : LayoutValue) (n : ℕ) → length (callers_of l n) ≡ n
length-callers_of l zero = refl
length-callers_of l (suc n) = let e = length-callers_of l n in let m = length-append (callers_of l n) (fresh_caller l n ∷ []) in omega (arith, e, m)
