use Rattle.std.proofs.Common.{◌≡◌, ◌≤◌, vec_len, vec_capacity}
use Rattle.xcp_server.proofs.tools.accept_tools.Given as goal

-- as many as have been accepted, and there is room for all
abbrev pub invariant-loop-tool : goal.invariant-loop-tool
invariant-loop-tool l = (vec_len l.streams ≡ l._tool) × (l.tools ≤ vec_capacity l.streams)
