-- The first test that holds, of lists of tests that are put together.
use Rattle.std.proofs.Common.{◌≡◌, Bool, true, false, not, List, ◌++◌, ◌∷◌, [], Some, None, refl, ◌∙◌, if◌then◌else◌}
use Rattle.xcp_packet.specs.Rows.{first_holding}

-- what must hold does, where the test that it doesn't fails
pub kept : (b : Bool) → not b ≡ false → b ≡ true
kept true h = refl
kept false h = cc

-- what must hold doesn't, where the test that it doesn't holds
pub broken : (b : Bool) → not b ≡ true → b ≡ false
broken true h = cc
broken false h = refl

module _ {A : Type 0} where
  -- a test that holds is the first one, whatever stands behind
  pub holding_left : (xs ys : List (Bool × A)) (e : A) → first_holding xs ≡ Some e → first_holding (xs ++ ys) ≡ Some e
  holding_left [] ys e h = cc
  holding_left (x ∷ xs) ys e h =
      elim x.0 as (λ b. (if b then Some x.1 else first_holding xs) ≡ Some e → (if b then Some x.1 else first_holding (xs ++ ys)) ≡ Some e) [
        | true ↦ λ k. k
        | false ↦ λ k. holding_left xs ys e k
      ] h

  -- where none holds, the first that does is that of the tests behind
  pub none_left : (xs ys : List (Bool × A)) → first_holding xs ≡ None → first_holding (xs ++ ys) ≡ first_holding ys
  none_left [] ys h = refl
  none_left (x ∷ xs) ys h =
      elim x.0 as (λ b. (if b then Some x.1 else first_holding xs) ≡ None → (if b then Some x.1 else first_holding (xs ++ ys)) ≡ first_holding ys) [
        | true ↦ λ k. cc
        | false ↦ λ k. none_left xs ys k
      ] h

  -- where none of two lists holds, none of either does
  pub none_both : (xs ys : List (Bool × A)) → first_holding (xs ++ ys) ≡ None → (first_holding xs ≡ None) × (first_holding ys ≡ None)
  none_both [] ys h = (refl, h)
  none_both (x ∷ xs) ys h =
      elim x.0 as (λ b. (if b then Some x.1 else first_holding (xs ++ ys)) ≡ None → ((if b then Some x.1 else first_holding xs) ≡ None) × (first_holding ys ≡ None)) [
        | true ↦ λ k. cc
        | false ↦ λ k. none_both xs ys k
      ] h

  -- Where no test of so many lists holds, those of the next list decide.
  pub behind_2 : (a b c : List (Bool × A)) → first_holding a ≡ None → first_holding b ≡ None → first_holding (a ++ b ++ c) ≡ first_holding c
  behind_2 a b c h i = none_left (a ++ b) c (none_left a b h ∙ i)

  pub behind_3 : (a b c d : List (Bool × A)) → first_holding a ≡ None → first_holding b ≡ None → first_holding c ≡ None → first_holding (a ++ b ++ c ++ d) ≡ first_holding d
  behind_3 a b c d h i j = none_left (a ++ b ++ c) d (behind_2 a b c h i ∙ j)

  pub behind_4 : (a b c d e : List (Bool × A)) → first_holding a ≡ None → first_holding b ≡ None → first_holding c ≡ None → first_holding d ≡ None → first_holding (a ++ b ++ c ++ d ++ e) ≡ first_holding e
  behind_4 a b c d e h i j k = none_left (a ++ b ++ c ++ d) e (behind_3 a b c d h i j ∙ k)

  -- Of so many lists, a test of the k-th is the first that holds.
  pub holding_1_of_3 : (a b c : List (Bool × A)) (f : A) → first_holding a ≡ Some f → first_holding (a ++ b ++ c) ≡ Some f
  holding_1_of_3 a b c f h = holding_left (a ++ b) c f (holding_left a b f h)

  pub holding_2_of_3 : (a b c : List (Bool × A)) (f : A) → first_holding a ≡ None → first_holding b ≡ Some f → first_holding (a ++ b ++ c) ≡ Some f
  holding_2_of_3 a b c f h i = holding_left (a ++ b) c f (none_left a b h ∙ i)

  pub holding_1_of_4 : (a b c d : List (Bool × A)) (f : A) → first_holding a ≡ Some f → first_holding (a ++ b ++ c ++ d) ≡ Some f
  holding_1_of_4 a b c d f h = holding_left (a ++ b ++ c) d f (holding_1_of_3 a b c f h)

  pub holding_2_of_4 : (a b c d : List (Bool × A)) (f : A) → first_holding a ≡ None → first_holding b ≡ Some f → first_holding (a ++ b ++ c ++ d) ≡ Some f
  holding_2_of_4 a b c d f h i = holding_left (a ++ b ++ c) d f (holding_2_of_3 a b c f h i)

  pub holding_3_of_4 : (a b c d : List (Bool × A)) (f : A) → first_holding a ≡ None → first_holding b ≡ None → first_holding c ≡ Some f → first_holding (a ++ b ++ c ++ d) ≡ Some f
  holding_3_of_4 a b c d f h i j = holding_left (a ++ b ++ c) d f (behind_2 a b c h i ∙ j)

  pub holding_1_of_5 : (a b c d e : List (Bool × A)) (f : A) → first_holding a ≡ Some f → first_holding (a ++ b ++ c ++ d ++ e) ≡ Some f
  holding_1_of_5 a b c d e f h = holding_left (a ++ b ++ c ++ d) e f (holding_1_of_4 a b c d f h)

  pub holding_2_of_5 : (a b c d e : List (Bool × A)) (f : A) → first_holding a ≡ None → first_holding b ≡ Some f → first_holding (a ++ b ++ c ++ d ++ e) ≡ Some f
  holding_2_of_5 a b c d e f h i = holding_left (a ++ b ++ c ++ d) e f (holding_2_of_4 a b c d f h i)

  pub holding_3_of_5 : (a b c d e : List (Bool × A)) (f : A) → first_holding a ≡ None → first_holding b ≡ None → first_holding c ≡ Some f → first_holding (a ++ b ++ c ++ d ++ e) ≡ Some f
  holding_3_of_5 a b c d e f h i j = holding_left (a ++ b ++ c ++ d) e f (holding_3_of_4 a b c d f h i j)

  pub holding_4_of_5 : (a b c d e : List (Bool × A)) (f : A) → first_holding a ≡ None → first_holding b ≡ None → first_holding c ≡ None → first_holding d ≡ Some f → first_holding (a ++ b ++ c ++ d ++ e) ≡ Some f
  holding_4_of_5 a b c d e f h i j k = holding_left (a ++ b ++ c ++ d) e f (behind_3 a b c d h i j ∙ k)
