-- A reader that knows where its stream stands.
use Rattle.std.specs.Prelude.{◌≢◌, ◌↔◌, ℕ, Bool, List, [], IsTrue}

-- it was told whether a frame has begun of which these bytes were read
pub record KnowsPlace {I : Type 0} (Knows : I → Bool → Type 0) (reader : I) (held : List ℕ) : Type 0 where
  pub inside : Bool
  pub told : Knows reader inside
  pub is_so : IsTrue inside ↔ (held ≢ [])
