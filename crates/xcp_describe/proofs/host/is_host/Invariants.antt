use Rattle.std.proofs.Common.{ℕ, ◌<◌, ◌≤◌, get_or}
use Rattle.xcp_describe.proofs.host.is_host.Given as goal

abbrev pub invariant-loop-byte : goal.invariant-loop-byte
invariant-loop-byte l = ((i : ℕ) → i < l.byte-index → 0x21 ≤ get_or l.text i 0) × ((i : ℕ) → i < l.byte-index → get_or l.text i 0 ≤ 0x7E)
