-- The numbers of an entry, which the A2L file has in decimal.
use Rattle.std.specs.Prelude.{IsTrue}
use Rattle.std.specs.Float.{Float, float_is_finite}
use Rattle.xcp_describe.specs.declared.entry.Entry.{Entry}

-- neither an infinity nor a NaN, which no decimal number is
abbrev pub IsFinite : Float → Type 0
IsFinite x = IsTrue (float_is_finite x)

pub record HasFiniteNumbers (e : Entry) : Type 0 where
  pub factor : IsFinite e.factor
  pub offset : IsFinite e.offset
  pub low : IsFinite e.low
  pub high : IsFinite e.high
