-- What a handle owns: a boxed value, or nothing; then its pointer is null.
use Rattle.std.specs.Prelude.{◌≡◌, Option, Some, None}
use mir.Syntax.{Ty}
use base.Fml.{Fml, feq}
use base.Stored.{Coded}
use denote.RattleType.{RattleType}
use denote.RawPtr.{Ptr, null_ptr}
use Rattle.std.specs.Box.Ownership.{box_owns}
use Rattle.std.specs.Coded.{coded_option}
use Rattle.std.specs.Global.{Global}
use Rattle.std.specs.contracts.impls.GlobalAllocator.TheImpl.{ghosts}
use Rattle.xcp_bank.specs.contracts.reader.Reader as reader
use Rattle.xcp_framing.specs.contracts.framer.Framer as framer
use Rattle.xcp_c.specs.contracts.open_slave.OpenSlave as slave

-- the handle owns a value
abbrev pub IsOpen : {X : Type 0} → Option X → Type 0
IsOpen {X} o = (x : X) × (o ≡ Some x)

-- what is owned at a place: a boxed value with what lets it be freed; or nothing, and then the place is null
abbrev pub lies_there : (Ty → Ptr → Fml) → (R : RattleType) → Ptr → Option R.Denot → Fml
lies_there frees R p (Some x) = box_owns frees R p x
lies_there frees R p None = feq Ptr p null_ptr

abbrev pub held_at : (R : RattleType) → Global → Ptr → Option R.Denot → Fml
held_at R alloc = lies_there (ghosts.dealloc_token alloc) R

abbrev pub held_slave : Global → Ptr → Option slave.the_row.Denot → Fml
held_slave = held_at slave.the_row

abbrev pub held_reader : Global → Ptr → Option reader.the_row.Denot → Fml
held_reader = held_at reader.the_row

abbrev pub held_framer : Global → Ptr → Option framer.the_row.Denot → Fml
held_framer = held_at framer.the_row

abbrev pub coded_slave : Coded (Option slave.the_row.Denot)
coded_slave = coded_option slave.the_row.coded

abbrev pub coded_reader : Coded (Option reader.the_row.Denot)
coded_reader = coded_option reader.the_row.coded

abbrev pub coded_framer : Coded (Option framer.the_row.Denot)
coded_framer = coded_option framer.the_row.coded
