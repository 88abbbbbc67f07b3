-- What the front of a file says of the whole.
use Rattle.std.proofs.Common.{◌≡◌, ◌<◌, ℕ, List, [], ◌++◌, length, take, sym, ◌∙◌, arith, Option, Some, None, IfSome}
use Rattle.std.specs.Option.{option_map}
use Rattle.std.proofs.lemmas.Grind.{common_steps}

taken : (limit : ℕ) (all : List ℕ) → length (take limit all) < limit → take limit all ≡ all
taken limit all h = grind (arith, common_steps, h)

-- what is shorter than the limit of a front is the whole
pub front-whole : (limit : ℕ) (known : Option (List ℕ)) (bytes : List ℕ) → IfSome (option_map (take limit) known) (λ xs. bytes ≡ [] ++ xs) → length bytes < limit → IfSome known (λ all. bytes ≡ all)
front-whole limit None bytes h l = tt
front-whole limit (Some all) bytes h l = let e : bytes ≡ take limit all = h in e ∙ taken limit all (rw (sym e) l)

-- the front of what is known
pub front-taken : (limit : ℕ) (known : Option (List ℕ)) (bytes : List ℕ) → IfSome (option_map (take limit) known) (λ xs. bytes ≡ [] ++ xs) → IfSome known (λ all. bytes ≡ take limit all)
front-taken limit None bytes h = tt
front-taken limit (Some all) bytes h = h
