use denote.Param.Send.{sendable}
use Rattle.std.proofs.Crossing.{crosses}
use Rattle.xcp_outlet.proofs.CrossingLemmas.{dispatch_crosses}
use Rattle.xcp_connection.proofs.CrossingLemmas.{heard_crosses, hearing_crosses, pumped_crosses, pumping_crosses}
use Rattle.xcp_connection.proofs.attending.attend_named.Goals as goal

pub run_beside-heard-requires-send-X : goal.run_beside-heard-requires-send-X
run_beside-heard-requires-send-X g c κs within = search (sendable, crosses, heard_crosses) depth 12

pub run_beside-heard-requires-send-A : goal.run_beside-heard-requires-send-A
run_beside-heard-requires-send-A g c κs within = search (sendable, crosses, hearing_crosses, dispatch_crosses) depth 12

pub run_beside-heard-requires-send-Y : goal.run_beside-heard-requires-send-Y
run_beside-heard-requires-send-Y g c κs within = search (sendable, crosses, pumped_crosses) depth 12

pub run_beside-heard-requires-send-B : goal.run_beside-heard-requires-send-B
run_beside-heard-requires-send-B g c κs within = search (sendable, crosses, pumping_crosses, dispatch_crosses) depth 12
