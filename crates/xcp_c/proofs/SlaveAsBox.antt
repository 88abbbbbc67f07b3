-- A handle and a box's place own what a box at the same types owns.
use mir.Syntax.{impl, tnil, dnil}
use mathlib.Core.List.{[]}
use denote.Signature.{Slot, plain}
use Rattle.std.proofs.BoxSteps.Form.{Bx}
use Rattle.std.specs.contracts.alloc.Global as Heap
use Rattle.std.specs.contracts.impls.GlobalAllocator.TheImpl.{ghosts, dict}
use Rattle.std.proofs.alloc.Global.TheLaws as heap
use Rattle.xcp_c.specs.contracts.open_slave.OpenSlave as Thing
use Rattle.xcp_c.proofs.open_slave.OpenSlave.TheLaws as thing
use Rattle.xcp_c.specs.contracts.place.Place as Place
use Rattle.xcp_c.specs.contracts.slave_handle.SlaveHandle as Handle

abbrev pub E : Bx
E = record { row = Thing.the_row; laws = thing.the_row_laws; al = record { row = Heap.the_row; laws = heap.the_row_laws; g = ghosts; d = dict; drops = impl [] tnil dnil } }

abbrev pub FromPlace : Slot 0
FromPlace = plain (λ _. Place.the_row Thing.the_row Heap.the_row ghosts)

abbrev pub FromHandle : Slot 0
FromHandle = plain (λ _. Handle.the_row)
