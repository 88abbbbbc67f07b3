-- What holds of each of the readers that nobody has taken yet.
use Rattle.std.proofs.Common.{◌≡◌, ◌∙◌, List, [], ◌∷◌, ◌++◌, Option, Some, None, IfSome, ap, map, subst}
use Rattle.std.proofs.lemmas.List.{map-append}
use Rattle.std.specs.List.{AllByRecursion}
use Rattle.std.specs.Option.{option_to_list}

all_front : {A : Type 0} (P : A → Type 0) (xs ys : List A) → AllByRecursion P (xs ++ ys) → AllByRecursion P xs
all_front P [] ys all = tt
all_front P (x ∷ xs) ys all = (all.0, all_front P xs ys all.1)

all_back : {A : Type 0} (P : A → Type 0) (xs ys : List A) → AllByRecursion P (xs ++ ys) → AllByRecursion P ys
all_back P [] ys all = all
all_back P (x ∷ xs) ys all = all_back P xs ys all.1

of_last : {A B : Type 0} (P : B → Type 0) (f : A → B) (r : Option A) → AllByRecursion P (map f (option_to_list r)) → IfSome r (λ x. P (f x))
of_last P f None all = tt
of_last P f (Some x) all = all.0

-- It holds of the last one, if it is taken, and of those that are left.
pub all_parts : {A B : Type 0} (P : B → Type 0) (f : A → B) (old new : List A) (r : Option A) → old ≡ new ++ option_to_list r → AllByRecursion P (map f old) → AllByRecursion P (map f new) × IfSome r (λ x. P (f x))
all_parts P f old new r is all =
    let cut = subst (AllByRecursion P) (ap (map f) is ∙ map-append f new (option_to_list r)) all in
    (all_front P (map f new) (map f (option_to_list r)) cut, of_last P f r (all_back P (map f new) (map f (option_to_list r)) cut))
