use Rattle.std.proofs.Common.{arith, rules}
use Rattle.xcp_controller.proofs.ImageRangeLemmas.{end-found, end-within}
use Rattle.xcp_controller.proofs.ranges.places_up_to.Goals as goal

pub returns-in_default-segment_of-clause-within : goal.returns-in_default-segment_of-clause-within
returns-in_default-segment_of-clause-within c a n some few end i found =
    absurd (end-found c.args.layout.now a n i c.args.end c.in-Some.last c.known.ensures some end (omega arith) found (search rules))

pub returns-clause-within : goal.returns-clause-within
returns-clause-within c a n some few end i found =
    let range = end-within c.args.layout.now a n i c.in-Some-segment_of.segment c.args.end c.in-Some.last c.known.ensures some few end (omega arith) found (search rules) in (
      omega (arith, range.0, c.place_of.ensures.place, c.segment_address.ensures.value, c.saturating_sub.ensures),
      omega (arith, range.1, c.place_of.ensures.place, c.segment_address.ensures.value),
    )
