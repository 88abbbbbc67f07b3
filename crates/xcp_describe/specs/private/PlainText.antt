-- Text that is appended.
use Rattle.std.specs.Prelude.{◌≡◌, List, ℕ, ◌++◌}
use Rattle.xcp_describe.specs.FindingsText.{IsPlainText}

-- new is old with text behind it that has no control character
pub record AppendsPlain (old new : List ℕ) : Type 0 where
  pub more : List ℕ
  pub plain : IsPlainText more
  pub is : new ≡ old ++ more
