-- Which stations may cross to another thread.
use denote.RattleType.{RattleType}
use denote.Ref.{NamedLft}
use denote.Param.Send.{AllSend, IsSend, IsSync, recorded_send, sendable, struct_send}
use denote.Struct.Declared as declared
use denote.Struct.Struct.{Struct}
use Rattle.std.proofs.Crossing.{crosses}
use Rattle.std.specs.declared.sync.ledger.Ledger as Ledger
use Rattle.xcp_locked.specs.declared.name.Name as Name
use Rattle.xcp_locked.specs.contracts.tool.Tool as Tool
use Rattle.xcp_locked.proofs.caller.Caller.TheSendSync as caller
use Rattle.xcp_locked.proofs.locked.Locked.TheSendSync as locked

-- a struct, as all its fields may
struct_crosses : (T : declared.Declared) → AllSend (declared.fields T) → IsSend (declared.row T)
struct_crosses T all = recorded_send (Struct (declared.shape T)) T.D T.to T.to_one (struct_send (declared.shape T) all)

-- a tool's station may cross to another thread, where the runtime may be shared
pub tool_crosses : (κ : NamedLft) (N R : RattleType) (g : Name.Ghosts N.Denot) (l : Ledger.Ghosts N.Denot) → IsSync R → IsSend (Tool.the_row κ N R g l)
tool_crosses κ N R g l r = struct_crosses (Tool.the_type κ N R g l) (search (sendable, crosses, locked.the_send) depth 20, (caller.the_send N g l, (search (sendable, crosses, r) depth 20, tt)))
