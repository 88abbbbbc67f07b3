use Rattle.std.proofs.Common.{◌<◌, ◌≤◌, List, length, arith}
use Rattle.std.specs.Prelude.{Option}
use Rattle.xcp_daq.specs.declared.element.Element.{Element}
use Rattle.xcp_daq.specs.DaqLists.{odt_size}
use Rattle.xcp_daq.proofs.SampleLemmas.{rest_all}
use Rattle.xcp_daq.proofs.odts.sampling.sample_stamped.Goals as goal

pub sample_odts-requires-clause-fits : goal.sample_odts-requires-clause-fits
sample_odts-requires-clause-fits c =
    let some : 0 < length c.args.counts.now = grind (arith, c.if-is_empty.ensures) in
    rw (c.rest-others.ensures, c.rest-behind.ensures) (rest_all (λ (odt : List (Option Element)). odt_size odt ≤ 254) c.args.counts.now c.args.entries.now some c.requires.fits)
