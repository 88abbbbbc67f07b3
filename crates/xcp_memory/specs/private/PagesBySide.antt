-- The pages of the two sides.
use Rattle.std.specs.Prelude.{ℕ, List}
use Rattle.xcp_memory.specs.declared.page_set.Side.{Side}
use Rattle.xcp_memory.specs.declared.page_set.Side.TheVariants.{Ecu, Xcp}
use Rattle.xcp_memory.specs.Pages.{SegmentPages, ecu_page, xcp_page}

-- the number of the page that a side has
abbrev pub page_by_side : Side → SegmentPages → ℕ
page_by_side Ecu s = s.ecu
page_by_side Xcp s = s.xcp

-- the page that a side has
abbrev pub page_by : Side → SegmentPages → List ℕ
page_by Ecu s = ecu_page s
page_by Xcp s = xcp_page s
