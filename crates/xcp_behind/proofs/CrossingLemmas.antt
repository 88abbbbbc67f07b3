-- The end that writes may cross to another thread.
use denote.RattleType.{RattleType}
use denote.Param.Send.{AllSend, IsSend, recorded_send, sendable, struct_send, view_send}
use denote.Struct.Declared as declared
use denote.Struct.Struct.{Struct}
use Rattle.std.proofs.Crossing.{crosses}
use Rattle.std.specs.declared.io.traits.Write as Write
use Rattle.relay.proofs.ends.Taker.TheSendSync as taker
use Rattle.xcp_behind.proofs.backlog.Backlog.TheSendSync as backlog
use Rattle.xcp_behind.proofs.piece.Piece.TheSendSync as piece
use Rattle.xcp_behind.specs.contracts.write_end.WriteEnd as WriteEnd
use Rattle.xcp_behind.specs.contracts.write_end.WriteEnd.TheInside as WriteEndInside

-- a struct, as all its fields may
struct_crosses : (T : declared.Declared) → AllSend (declared.fields T) → IsSend (declared.row T)
struct_crosses T all = recorded_send (Struct (declared.shape T)) T.D T.to T.to_one (struct_send (declared.shape T) all)

-- where its stream may
pub write_end_crosses : (W : RattleType) (g : Write.Ghosts W.Denot) → IsSend W → IsSend (WriteEnd.the_row W g)
write_end_crosses W g w =
    view_send (WriteEndInside.the_row W g) _ _ _ _
    (struct_crosses (WriteEndInside.the_type W g)
    (search (sendable, crosses, backlog.the_send, backlog.the_sync) depth 20, (search (sendable, crosses, taker.the_send, piece.the_send) depth 20, (w, (search (sendable, crosses) depth 20, (search sendable, tt))))))
