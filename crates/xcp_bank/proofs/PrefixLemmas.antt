-- Lists that begin with others.
use Rattle.std.proofs.Common.{ℕ, ◌≤◌, List, [], ◌∷◌, ◌++◌, length, ap, sym, ◌∙◌, arith, append_assoc, length-append}
use mathlib.Core.List.{IsPrefix}
use Rattle.xcp_bank.specs.SeatKnowledge.{AllBegin}

-- a list that begins a second one, which begins a third, begins the third
pub begins_again : (a b c : List (List ℕ)) → IsPrefix a b → IsPrefix b c → IsPrefix a c
begins_again a b c g h = (g.0 ++ h.0, sym (append_assoc a g.0 h.0) ∙ (ap (λ (l : List (List ℕ)). l ++ h.0) g.1 ∙ h.1))

-- lists that all begin a second one, which begins a third, all begin the third
pub all_again : (ls : List (List (List ℕ))) (b c : List (List ℕ)) → AllBegin ls b → IsPrefix b c → AllBegin ls c
all_again [] b c g h = tt
all_again (l ∷ ls) b c g h = (begins_again l b c g.0 h, all_again ls b c g.1 h)

-- a list that begins another is no longer than it
pub begins_length : (a b : List (List ℕ)) → IsPrefix a b → length a ≤ length b
begins_length a b g = let e = ap length g.1 in let l = length-append a g.0 in omega arith
