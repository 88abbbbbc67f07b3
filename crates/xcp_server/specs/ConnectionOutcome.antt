-- What comes of a connection to a shared slave: of its reading, of its pump and of its sending.
use Rattle.std.specs.Prelude.{◌≡◌, ◌≢◌, ◌+◌, ◌<◌, ◌≤◌, ℕ, true, false, List, [], Option, Err, IfErr}
use Rattle.xcp_framing.specs.Pump.{Pumps}
use Rattle.xcp_framing.specs.Serve.{EndsReader}
use Rattle.xcp_framing.specs.ServeBy.{ServesBy}
use Rattle.xcp_framing.specs.ServeParts.{IsInterruption}
use Rattle.xcp_framing.specs.CountedCalls.{Watched, stream_place}
use Rattle.xcp_framing.specs.declared.serving.ServeError.TheVariants as errors
use Rattle.xcp_outlet.specs.Sending.{SendsMessages}
use Rattle.xcp_connection.specs.Connections.{outcome_of}
use Rattle.xcp_connection.specs.Hearing.{RefusedWhere, StopsAt}
use Rattle.xcp_connection.specs.Sending.{Delivered}
use Rattle.xcp_connection.specs.declared.closing.Closed.{Closed}
use Rattle.xcp_locked.specs.Caller.{CallerValue}
use Rattle.xcp_locked.specs.Receipts.{exchanges_of}
use Rattle.xcp_locked.specs.Tasks.{Same}

-- of readers and writers whose bytes a contract can see: what a reader has left, and what a writer contains
module _ {I O : Type 0} (remaining : I → Option (List ℕ)) (contents : O → Option (List ℕ)) where
  -- The stream was served with MAX_CTO m, by so many reads at most, for this caller of a tool and this one of a pump: the answers'
  -- packets and those of the pump were put, and of what was put the sender wrote what it took.
  pub record Attended (m turns : ℕ) (reader : Watched I) (writer : Watched O) (tool pump : CallerValue) (d : Closed CallerValue I O) : Type 0 where
    pub serves : ServesBy m d.heard (stream_place remaining reader) (stream_place remaining d.left.reader.value) (exchanges_of tool.receipts) (exchanges_of d.tool.receipts) [] d.left.replies.value.put
    pub pumps : Pumps d.pumped (exchanges_of pump.receipts) (exchanges_of d.pump.receipts) [] d.left.samples.value.put
    pub stops : IfErr d.pumped IsInterruption
    pub sends : SendsMessages d.sent d.left.took.value.taken (contents writer.inner) (contents d.left.writer.value.inner) writer.failures d.left.writer.value.failures
    pub replies : Delivered false d.left.took.value.taken d.left.replies.value.put
    pub samples : Delivered true d.left.took.value.taken d.left.samples.value.put
    pub outcome : d.outcome ≡ outcome_of d.heard d.pumped d.sent
    pub ends : EndsReader d.heard (remaining d.left.reader.value.inner)
    pub read : d.heard ≡ Err errors.Read → reader.failures < d.left.reader.value.failures
    pub unfailed : d.heard ≢ Err errors.Read → d.left.reader.value.failures ≡ reader.failures
    pub reads : d.left.reader.value.calls ≤ reader.calls + turns
    pub spent : d.heard ≡ Err errors.TurnsSpent → d.left.reader.value.calls ≡ reader.calls + turns
    pub refused : RefusedWhere d.heard ((d.left.reader.value ≡ reader) × (exchanges_of d.tool.receipts ≡ exchanges_of tool.receipts) × (d.left.replies.value.put ≡ []))
        (StopsAt m (stream_place remaining reader) (stream_place remaining d.left.reader.value) (exchanges_of tool.receipts) (exchanges_of d.tool.receipts))
    pub same_tool : Same tool d.tool
    pub same_pump : Same pump d.pump
