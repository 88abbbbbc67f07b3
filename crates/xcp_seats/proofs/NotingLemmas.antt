-- A writer whose bytes contracts see may cross to another thread where it may itself.
use denote.RattleType.{RattleType}
use denote.Param.Send.{AllSend, IsSend, recorded_send, sendable, struct_send}
use denote.Struct.Declared as declared
use denote.Struct.Struct.{Struct}
use Rattle.std.proofs.Crossing.{crosses}
use Rattle.xcp_framing.specs.contracts.noting.Noting as Noting
use Rattle.xcp_framing.specs.contracts.record.Record as Record

-- a struct, as all its fields may
struct_crosses : (T : declared.Declared) → AllSend (declared.fields T) → IsSend (declared.row T)
struct_crosses T all = recorded_send (Struct (declared.shape T)) T.D T.to T.to_one (struct_send (declared.shape T) all)

-- a record of bytes owns nothing
record_crosses : IsSend Record.the_field.row
record_crosses = search (sendable, crosses) depth 20

-- what notes a writer's bytes may cross where the writer may
pub noting_crosses : (W : RattleType) → IsSend W → IsSend (Noting.the_row W)
noting_crosses W w = struct_crosses (Noting.the_type W) (w, (record_crosses, tt))
