-- What the last lines of a server count, and what else it tells.
use Rattle.std.specs.Prelude.{Option, Result, Ok, Err}
use Rattle.xcp_program.specs.declared.fault.Fault.{Fault}
use Rattle.xcp_program.specs.declared.server_lines.Counts.{Counts}
use Rattle.xcp_program.specs.declared.server_lines.Network.{Network}
use Rattle.xcp_seats.specs.declared.port.Traffic.{Traffic}
use Rattle.xcp_server.specs.declared.report.Report.{Report}
use Rattle.xcp_stay.specs.declared.staying.StayReport.{StayReport}

-- of a server that ends with its tools and tasks, no cycles are too late
abbrev pub counts_at_end : Report → Counts
counts_at_end r = record { chapters = r.chapters; calls = r.calls; lost = r.lost; late = 0 }

-- of one that stayed, all that is told of it
abbrev pub counts_at_stop : StayReport → Counts
counts_at_stop r = record { chapters = r.chapters; calls = r.calls; lost = r.lost; late = r.late }

-- the faults that a server tells which ended with its tools and tasks, or the one that kept it from that
abbrev pub told_at_end : Result Report Fault → Result (Option Fault) Fault
told_at_end (Ok r) = Ok r.fault
told_at_end (Err fault) = Err fault

-- of a port of UDP, all that there was of its datagrams
abbrev pub network_of : Traffic → Network
network_of t = record { came = t.came; faulty = t.faulty; foreign = t.foreign; lost = t.gaps.lost; doubled = t.gaps.doubled; overtaken = t.gaps.overtaken; unsent = t.unsent }
