use Rattle.bitflags.specs.Sets.{known_from}
use Rattle.xcp_memory.specs.declared.segment_mode.SegmentMode.{SegmentMode}
use Rattle.xcp_memory.proofs.SegmentModeLemmas.{found_mode, no_mode}
use Rattle.xcp_memory.proofs.segment_mode.SegmentMode.of.Goals as goal

pub returns-clause-some : goal.returns-clause-some
unfolding known_from
returns-clause-some c = found_mode (λ (m : SegmentMode). m.0) c.args.bits c.from_bits.result (c.from_bits.ensures.value tt) (c.from_bits.ensures.known tt)

pub returns-clause-none : goal.returns-clause-none
unfolding known_from
returns-clause-none c = no_mode c.args.bits c.from_bits.result (c.from_bits.ensures.known tt)
