-- A handle may go to another thread: what it owns names no thread.
use denote.Struct.Struct.{exits_of}
use denote.Struct.Owning.{shape, fields, to}
use denote.Param.Send.{IsSend, AllSend, owning_send, struct_send, sendable}
use Rattle.std.proofs.alloc.Global.TheSendSync as global
use Rattle.xcp_c.specs.contracts.open_slave.OpenSlave as Held
use Rattle.xcp_c.proofs.open_slave.OpenSlave.TheSendSync.{the_send as held}
use Rattle.xcp_c.proofs.Crossing.{owned, quiet}
use Rattle.xcp_c.specs.contracts.slave_handle.SlaveHandle.{the_row, the_type}

pub send : IsSend the_row
send =
    let all : AllSend (fields the_type) = (search sendable, (global.the_field_send, tt)) in
    owning_send the_type all (λ d. owned Held.the_row held d.alloc d.at d.value)
    (λ k. quiet (to the_type) (exits_of k (fields the_type)) ((struct_send (shape the_type) all).leaving k))
