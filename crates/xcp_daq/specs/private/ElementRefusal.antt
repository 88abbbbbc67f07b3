-- The refusal of one element of a list.
use Rattle.std.specs.Prelude.{ℕ, Option}
use Rattle.xcp_packet.specs.declared.Code.{Code}
use Rattle.xcp_memory.specs.Layout.{LayoutValue}
use Rattle.xcp_packet.specs.Rows.{first_holding}
use Rattle.xcp_daq.specs.Configuring.{element_rows}

-- when an element is refused
abbrev pub element_refusal : LayoutValue → ℕ → ℕ → ℕ → ℕ → Option Code
element_refusal layout offset size extension address = first_holding (element_rows layout offset size extension address)
