-- Which answers put no sample.
-- (ASAM MCD-1 XCP, protocol layer, event packets: EV_DAQ_OVERLOAD.)
use Rattle.std.specs.Prelude.{◌≡◌}
use Rattle.xcp_slave.specs.Outcomes.{Answer}
use Rattle.xcp_slave.specs.declared.outcome.Outcome.TheVariants as answers

-- no packet of an event waits since
abbrev pub PutsNoSample : Answer → Type 0
PutsNoSample (answers.Sampled n) = n ≡ 0
PutsNoSample _ = Unit {0}
