use Rattle.std.proofs.Common.{arith, [], List}
use Rattle.std.specs.Prelude.{Option}
use Rattle.std.proofs.lemmas.List.Folds.{length-flat_map-take}
use Rattle.xcp_daq.specs.declared.element.Element.{Element}
use Rattle.xcp_daq.proofs.odts.Odts.sample.Goals as goal

pub sample_stamped-requires-clause-room : goal.sample_stamped-requires-clause-room
sample_stamped-requires-clause-room c = omega (arith, length-flat_map-take (λ (part : List (List (Option Element))). part) c.args.self.now.lists c.args.i [] c.requires.list, c.list.ensures.count, c.odt_count-odts.ensures.value, c.odt_count-odts.ensures.most, c.requires.room)

pub sample_stamped-requires-clause-pids : goal.sample_stamped-requires-clause-pids
sample_stamped-requires-clause-pids c = omega (arith, length-flat_map-take (λ (part : List (List (Option Element))). part) c.args.self.now.lists c.args.i [] c.requires.list, c.list.ensures.count, c.odt_count-odts.ensures.value, c.odt_count-odts.ensures.bound, c.first_pid-first.ensures.value)
