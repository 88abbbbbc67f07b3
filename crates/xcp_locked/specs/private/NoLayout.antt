-- A layout for the name that nothing is said of.
use Rattle.std.specs.Prelude.{[]}
use Rattle.xcp_memory.specs.Layout.{LayoutValue, no_extras}
use Rattle.xcp_memory.specs.declared.checksum_kind.ChecksumKind.TheVariants.{Add11}
use Rattle.xcp_memory.specs.declared.class.Class.TheVariants.{Papers}
use Rattle.xcp_packet.specs.declared.Order.TheVariants.{Intel}
use Rattle.xcp_packet.specs.declared.Stamp.TheVariants.{Without}

-- the layout that `Brand` stands for where nothing is said: a call of a generic function at it names the slave's own
abbrev pub no_layout : LayoutValue
no_layout = record { class = Papers; id = []; max_cto = 0; max_dto = 0; checksum = Add11; order = Intel; clock = record { stamp = Without; unit = 0; ticks = 1 }; segments = []; signals_address = 0; signals_length = 0; events = []; extras = no_extras }
