-- The reference pages that a slave will have once what a tool asked for is stored.
-- (ASAM MCD-1 XCP, protocol layer, description of commands: SET_REQUEST.)
use Rattle.std.specs.Prelude.{ℕ, List, if◌then◌else◌}
use Rattle.xcp_memory.specs.Freeze.{stored_page}
use Rattle.xcp_memory.specs.Pages.{SegmentPages}
use Rattle.xcp_memory.specs.ReferencePage.{reference_page}
use Rattle.xcp_slave.specs.SlaveValue.{SlaveValue}

-- the reference page of one of its segments: where a store is requested the one that this leaves, and else its own
abbrev pub kept_page : SlaveValue → SegmentPages → List ℕ
kept_page v s = if v.store then stored_page s else reference_page s
