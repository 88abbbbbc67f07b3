-- Which parts of an outlet may cross to another thread, with a writer that may.
use denote.RattleType.{RattleType}
use denote.Param.Send.{AllSend, IsSend, recorded_send, sendable, struct_send, view_send}
use denote.Struct.Declared as declared
use denote.Struct.Struct.{Struct}
use Rattle.std.proofs.Crossing.{crosses}
use Rattle.std.specs.declared.io.traits.Write as Write
use Rattle.xcp_framing.specs.contracts.record.Record as Record
use Rattle.xcp_framing.specs.contracts.tally.Tally as Tally
use Rattle.xcp_framing.specs.contracts.watched.Watched as Watched
use Rattle.xcp_framing.specs.contracts.watched.Watched.TheInside as Inside
use Rattle.xcp_outlet.specs.declared.line_name.LineName as LineName
use Rattle.xcp_outlet.specs.contracts.dispatch.Dispatch as Dispatch
use Rattle.xcp_outlet.specs.contracts.dispatch.Dispatch.TheInside as DispatchInside
use Rattle.xcp_outlet.proofs.intake.Intake.TheSendSync as intake
use Rattle.xcp_outlet.proofs.line.Line.TheSendSync as line

-- a struct, as all its fields may
pub struct_crosses : (T : declared.Declared) → AllSend (declared.fields T) → IsSend (declared.row T)
struct_crosses T all = recorded_send (Struct (declared.shape T)) T.D T.to T.to_one (struct_send (declared.shape T) all)

-- a tally owns nothing
tally_crosses : IsSend Tally.the_field.row
tally_crosses = search (sendable, crosses) depth 20

-- nor does a record of bytes
record_crosses : IsSend Record.the_field.row
record_crosses = search (sendable, crosses) depth 20

-- a watched reader or writer may, where the inner one may
pub watched_crosses : (T : RattleType) → IsSend T → IsSend (Watched.the_row T)
watched_crosses T s = view_send (Inside.the_row T) _ _ _ _ (struct_crosses (Inside.the_type T) (s, (tally_crosses, (tally_crosses, (record_crosses, (record_crosses, tt))))))

-- what sends may, where its writer may
pub dispatch_crosses : (L W : RattleType) (l : LineName.Ghosts L.Denot) (w : Write.Ghosts W.Denot) → IsSend W → IsSend (Dispatch.the_row L W l w)
dispatch_crosses L W l w s = view_send (DispatchInside.the_row L W l w) _ _ _ _ (struct_crosses (DispatchInside.the_type L W l w) (search sendable, (search (sendable, crosses, intake.the_send) depth 20, (search (sendable, crosses, line.the_send) depth 20, (watched_crosses W s, (search (sendable, crosses) depth 20, tt))))))
