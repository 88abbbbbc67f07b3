use Rattle.std.proofs.Common.{◌≡◌, ◌<◌, ◌-◌, ℕ, length}
use Rattle.xcp_framing.specs.declared.framer.Brought.TheVariants.{Packet, More, BadLength}
use Rattle.xcp_framing.specs.Wire.{IsBadLength, len_of}
use Rattle.xcp_framing.specs.FramerInput.{Feeds, got_in, packets_given}
use Rattle.xcp_framing.proofs.framer.Framer.feed_into.Given as goal

abbrev pub invariant-loop-cut : goal.invariant-loop-cut
invariant-loop-cut l = record {
  feeds : Feeds l.fn.self.max_cto l.fn.self.held l.piece l.cut.used (packets_given (got_in l.cut.brought l.packet)) l.self.held;
  more : l.cut.brought ≡ More → ¬ IsBadLength l.self.max_cto l.self.held;
  bad : (n : ℕ) → l.cut.brought ≡ BadLength n → (n ≡ len_of l.self.held) × IsBadLength l.self.max_cto l.self.held;
  moves : l.cut.brought ≡ Packet → 0 < l.cut.used;
  kept : l.self.max_cto ≡ l.fn.self.max_cto;
}

abbrev pub decreases-loop-cut : goal.decreases-loop-cut
decreases-loop-cut l = length l.piece - l.cut.used
