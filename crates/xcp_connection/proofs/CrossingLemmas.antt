-- Which of the parts of a connection may cross to another thread.
use denote.RattleType.{RattleType}
use denote.Ref.{NamedLft}
use denote.Param.Send.{IsSend, sendable}
use Rattle.std.proofs.Crossing.{crosses}
use Rattle.xcp_framing.proofs.serving.ServeError.TheSendSync as error
use Rattle.xcp_framing.proofs.serving.Served.TheSendSync as served
use Rattle.xcp_connection.specs.contracts.hearing.Heard as Heard
use Rattle.xcp_connection.specs.contracts.hearing.Hearing as Hearing
use Rattle.xcp_connection.specs.contracts.pumping.Pumped as Pumped
use Rattle.xcp_connection.specs.contracts.pumping.Pumping as Pumping
use Rattle.xcp_outlet.proofs.CrossingLemmas.{struct_crosses, watched_crosses}
use Rattle.xcp_outlet.proofs.end.PutEnd.TheSendSync as ends
use Rattle.xcp_outlet.proofs.put.Put.TheSendSync as put

-- what comes of hearing a tool, and of a pump
pub heard_crosses : (S I : RattleType) → IsSend S → IsSend (Heard.the_row S I)
heard_crosses S I s =
    struct_crosses (Heard.the_type S I) (s, (search (sendable, crosses, error.the_send, served.the_send) depth 20, (search (sendable, crosses) depth 20, (put.the_send, tt))))

-- what comes of a pump may cross to another thread
pub pumped_crosses : (S : RattleType) → IsSend S → IsSend (Pumped.the_row S)
pumped_crosses S s = struct_crosses (Pumped.the_type S) (s, (search (sendable, crosses, error.the_send) depth 20, (put.the_send, tt)))

-- the two parts, where the station may, and who stands under the lock, and by whom their packets go out
pub hearing_crosses : (κ : NamedLft) (N T S I P F : RattleType) → IsSend T → IsSend S → IsSend I → IsSend P → IsSend F → IsSend (Hearing.the_row κ N T S I P F)
hearing_crosses κ N T S I P F t s i p f =
    struct_crosses (Hearing.the_type κ N T S I P F)
    (search (sendable, crosses) depth 20, (s, (watched_crosses I i, (p, (search (sendable, crosses, ends.the_send) depth 20, (f, (search (sendable, crosses) depth 20, (search (sendable, crosses) depth 20, (search sendable, (search sendable, (search (sendable, crosses) depth 20, tt)))))))))))

-- a pump's part may cross to another thread, where the station may, and by whom its packets are written
pub pumping_crosses : (κ : NamedLft) (S F : RattleType) → IsSend S → IsSend F → IsSend (Pumping.the_row κ S F)
pumping_crosses κ S F s f = struct_crosses (Pumping.the_type κ S F) (s, (search (sendable, crosses, ends.the_send) depth 20, (f, (search (sendable, crosses) depth 20, (search sendable, (search (sendable, crosses) depth 20, tt))))))
