-- The first check that fails, of members that are looked at one by one.
use Rattle.std.proofs.Common.{Result, Ok, Err, IfOk, IfErr, ◌⊎◌, inl, inr, ◌≡◌, ℕ, ◌+◌, ◌<◌, List, length, ◌++◌, ◌∷◌, drop, Some, None, sym, ◌∙◌, ap, get_or, suc, add-one}
use Rattle.std.specs.List.{flat_map, enumerate_from}
use Rattle.std.proofs.Math.Seq.{drop-cons}
use Rattle.xcp_config.specs.declared.config_error.ConfigError.{ConfigError}
use Rattle.xcp_packet.specs.Rows.{first_holding}
use Rattle.xcp_packet.proofs.RowTestLemmas.{holding_left, none_left}
use Rattle.xcp_config.specs.Check.{Check}

-- a fault other than Memory goes on
pub or_so : {A : Type 0} {B : Type 0} {C : Type 0} → A ⊎ B → (B → C) → A ⊎ C
or_so h f = elim h [ inl a ↦ inl a | inr b ↦ inr (f b) ]

-- a list from one of its elements on
pub drop_here : {A : Type 0} (xs : List A) (i : ℕ) (x : A) → i < length xs → x ≡ get_or xs i x → drop i xs ≡ x ∷ drop (i + 1) xs
drop_here xs i x h e = drop-cons xs i x h ∙ ap (λ y. y ∷ drop (suc i) xs) (sym e) ∙ ap (λ n. x ∷ drop n xs) (sym (add-one i))

module _ {A : Type 0} (f : ℕ × A → List Check) where
  -- the checks of numbered members, from one of them on
  from_here : (xs : List A) (i : ℕ) (x : A) → i < length xs → x ≡ get_or xs i x → flat_map f (enumerate_from i (drop i xs)) ≡ f (i, x) ++ flat_map f (enumerate_from (i + 1) (drop (i + 1) xs))
  from_here xs i x h e = ap (λ ys. flat_map f (enumerate_from i ys)) (drop_here xs i x h e)

  -- one more member passes its checks
  pub member_passed : (xs : List A) (i : ℕ) (x : A) → i < length xs → x ≡ get_or xs i x → first_holding (f (i, x)) ≡ None → first_holding (flat_map f (enumerate_from i (drop i xs))) ≡ first_holding (flat_map f (enumerate_from (i + 1) (drop (i + 1) xs)))
  member_passed xs i x h e k = ap first_holding (from_here xs i x h e) ∙ none_left (f (i, x)) (flat_map f (enumerate_from (i + 1) (drop (i + 1) xs))) k

  -- a member that doesn't
  pub member_failed : (xs : List A) (i : ℕ) (x : A) (e : ConfigError) → i < length xs → x ≡ get_or xs i x → first_holding (f (i, x)) ≡ Some e → first_holding (flat_map f (enumerate_from i (drop i xs))) ≡ Some e
  member_failed xs i x e h g k = ap first_holding (from_here xs i x h g) ∙ holding_left (f (i, x)) (flat_map f (enumerate_from (i + 1) (drop (i + 1) xs))) e k

-- what holds of an answer's value, or of its error, by what is known of it
pub if_ok : {T E : Type 0} (r : Result T E) (P Q : T → Type 0) → ((x : T) → P x → Q x) → IfOk r P → IfOk r Q
if_ok (Ok x) P Q f h = f x h
if_ok (Err e) P Q f h = tt

-- what follows from a fact about an error holds of it, where a call gave one
pub if_err : {T E : Type 0} (r : Result T E) (P Q : E → Type 0) → ((e : E) → P e → Q e) → IfErr r P → IfErr r Q
if_err (Ok x) P Q f h = tt
if_err (Err e) P Q f h = f e h
