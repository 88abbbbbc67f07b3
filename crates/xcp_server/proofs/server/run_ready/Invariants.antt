use Rattle.xcp_server.specs.private.Dispatching.{before_at, failures_at, outlet_at}
use Rattle.xcp_server.proofs.server.run_ready.Given as goal

abbrev pub ghosts-run_named : goal.ghosts-run_named
ghosts-run_named g a = record { outlet = outlet_at a.outlets.items; before = before_at g.O.Write.contents a.ready.streams.items; failures = failures_at a.ready.streams.items }
