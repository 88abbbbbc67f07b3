use denote.Param.Send.{sendable}
use Rattle.std.proofs.Crossing.{crosses}
use Rattle.xcp_behind.proofs.CrossingLemmas.{write_end_crosses}
use Rattle.xcpd.proofs.flushed.Flushed.TheSendSync as flushed
use Rattle.xcpd.proofs.teller.Alarm.TheSendSync as alarm
use Rattle.xcpd.proofs.distant.begin_writing.Goals as goal

pub spawn-requires-send-F : goal.spawn-requires-send-F
spawn-requires-send-F g c κs within = search (sendable, crosses, write_end_crosses, flushed.the_send, alarm.the_send, alarm.the_sync) depth 24
