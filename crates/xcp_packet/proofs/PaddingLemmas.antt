-- How a list is made longer by zeros.
use Rattle.std.proofs.Common.{◌≡◌, ◌≤◌, ◌+◌, ◌-◌, ℕ, List, [], ◌∷◌, ◌++◌, length, replicate, ap, sym, ◌∙◌, arith, append_assoc}
use Rattle.std.proofs.lemmas.List.{append-nil, replicate-append-replicate}
use Rattle.xcp_packet.specs.private.EncodeByParameter.{up_to}

-- nothing is added where the list is long enough
pub up_to-long : (n : ℕ) (xs : List ℕ) → n ≤ length xs → up_to n xs ≡ xs
unfolding up_to
up_to-long n xs h = let e : n - length xs ≡ 0 = omega arith in rw e (append-nil xs)

-- one more zero
pub up_to-more : (n : ℕ) (xs : List ℕ) → length xs ≤ n → up_to (n + 1) xs ≡ up_to n xs ++ 0 ∷ []
unfolding up_to
up_to-more n xs h =
    let e : (n + 1) - length xs ≡ (n - length xs) + 1 = omega arith in
    rw e (ap (λ (ys : List ℕ). xs ++ ys) (sym (replicate-append-replicate (n - length xs) 1 0)) ∙ sym (append_assoc xs (replicate (n - length xs) 0) (0 ∷ [])))
