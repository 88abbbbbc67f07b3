use Rattle.std.proofs.Common.{◌≡◌, map}
use Rattle.xcp_server.specs.private.WrittenChapters.{given_of}
use Rattle.xcp_server.proofs.recording.write_each.Given as goal

-- what was taken was given
abbrev pub invariant-loop-excerpt : goal.invariant-loop-excerpt
invariant-loop-excerpt g l = g.S.Scribe.wrote l.scribe (map given_of l.excerpts.taken) × (l.excerpts.relay ≡ l.fn.excerpts.relay)
