use Rattle.std.proofs.Common.{take}
use Rattle.xcp_server.specs.Report.{given_in}
use Rattle.xcp_server.proofs.recording.write_rest.Given as goal

-- the chapters up to here were given
abbrev pub invariant-loop-k : goal.invariant-loop-k
invariant-loop-k g l = g.S.Scribe.wrote l.scribe (given_in (take l.k l.chapters))
