use denote.Param.{param}
use denote.Param.Send.{IsSend, IsSync, sendable}
use Rattle.std.specs.contracts.sync.Mutex as Mutex
use Rattle.xcp_outlet.specs.contracts.dispatch.Dispatch as Dispatch
use Rattle.std.proofs.Crossing.{crosses}
use Rattle.xcp_outlet.proofs.CrossingLemmas.{dispatch_crosses}
use Rattle.xcp_connection.proofs.CrossingLemmas.{heard_crosses, hearing_crosses, pumped_crosses, pumping_crosses}
use Rattle.xcp_locked.proofs.locked.Locked.TheSendSync as locked
use Rattle.xcp_server.proofs.ThreadCrossingLemmas.{tool_crosses}
use Rattle.xcp_server.specs.private.ConnectionParts.{CameOfTools}
use Rattle.xcp_locked.specs.TaskOutcome.{DoneAs}
use Rattle.xcp_locked.proofs.PairedListLemmas.{zip_of}
use Rattle.xcp_locked.proofs.TaskPlanLemmas.{if_ok}
use Rattle.xcp_server.proofs.server.run_all.Goals as goal

pub run_crews_and-requires-send-X : goal.run_crews_and-requires-send-X
run_crews_and-requires-send-X g c κs within = search (sendable, crosses, heard_crosses, tool_crosses, c.type_bounds.sync-R) depth 20

pub run_crews_and-requires-send-A : goal.run_crews_and-requires-send-A
run_crews_and-requires-send-A g c κs within =
    let d : IsSend (Dispatch.the_row (param 1 g.row.L) (param 4 g.row.O) g.L.LineName g.O.Write) = dispatch_crosses (param 1 g.row.L) (param 4 g.row.O) g.L.LineName g.O.Write (search (sendable, crosses) depth 12) in
    let m : IsSync (Mutex.the_row (Dispatch.the_row (param 1 g.row.L) (param 4 g.row.O) g.L.LineName g.O.Write)) = search (sendable, crosses, d) depth 12 in
    search (sendable, hearing_crosses, m, tool_crosses, locked.the_send, c.type_bounds.sync-R) depth 12

pub run_crews_and-requires-send-Y : goal.run_crews_and-requires-send-Y
run_crews_and-requires-send-Y g c κs within = search (sendable, crosses, pumped_crosses, tool_crosses, c.type_bounds.sync-R) depth 20

pub run_crews_and-requires-send-B : goal.run_crews_and-requires-send-B
run_crews_and-requires-send-B g c κs within =
    let d : IsSend (Dispatch.the_row (param 1 g.row.L) (param 4 g.row.O) g.L.LineName g.O.Write) = dispatch_crosses (param 1 g.row.L) (param 4 g.row.O) g.L.LineName g.O.Write (search (sendable, crosses) depth 12) in
    let m : IsSync (Mutex.the_row (Dispatch.the_row (param 1 g.row.L) (param 4 g.row.O) g.L.LineName g.O.Write)) = search (sendable, crosses, d) depth 12 in
    search (sendable, pumping_crosses, m, tool_crosses, c.type_bounds.sync-R) depth 12

pub returns-clause-parted : goal.returns-clause-parted
returns-clause-parted g c = if_ok c.run_crews_and.result (λ r h. zip_of (CameOfTools g.I.Read.remaining) c.args.connections.items r.0.items h.all (λ i x y low. let gave = h.each i x y low in record { heard = gave.first; pumped = gave.second })) c.run_crews_and.ensures.crews

pub returns-clause-worked : goal.returns-clause-worked
returns-clause-worked g c = if_ok c.run_crews_and.result (λ r h. zip_of (DoneAs g.N.Name.layout g.G.Gate.may_end) c.args.tasks.items r.1.items h.all h.each) c.run_crews_and.ensures.works
