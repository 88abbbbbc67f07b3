-- The values of a slave itself.
use Rattle.std.specs.Prelude.{◌≡◌}
use Rattle.xcp_memory.specs.Layout.{LayoutValue}

-- two layouts have the same of them
pub record SameValues (a b : LayoutValue) : Type 0 where
  pub class : a.class ≡ b.class
  pub id : a.id ≡ b.id
  pub max_cto : a.max_cto ≡ b.max_cto
  pub max_dto : a.max_dto ≡ b.max_dto
  pub checksum : a.checksum ≡ b.checksum
  pub order : a.order ≡ b.order
  pub clock : a.clock ≡ b.clock
