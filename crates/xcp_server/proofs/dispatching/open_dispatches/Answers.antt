use Rattle.std.proofs.Common.{rules, length, ap, arith}
use Rattle.xcp_locked.proofs.PairedListLemmas.{turn, map_more}
use Rattle.xcp_server.specs.private.Dispatching.{before_at, failures_at, outlet_at}
use Rattle.xcp_server.proofs.DispatchingLemmas.{from_start, mapped_more, next_befores, next_failures, next_outlets, this_before, this_failures, this_outlet}
use Rattle.xcp_server.proofs.dispatching.open_dispatches.Goals as goal

pub loop-reader-init : goal.loop-reader-init
loop-reader-init g c = (
  search rules,
  search rules,
  search rules,
  search rules,
  search rules,
  search rules,
  search rules,
  search rules,
  search rules,
  search rules,
  from_start g.L.LineName.outlet outlet_at _ _ c.requires.outlets c.into_iter-outlets.ensures.rest,
  from_start g.L.LineName.before (before_at g.O.Write.contents) _ _ c.requires.before c.into_iter-reader-iterator.ensures.into_iter_gives.0,
  from_start g.L.LineName.failures failures_at _ _ c.requires.failures c.into_iter-reader-iterator.ensures.into_iter_gives.0,
)

pub new-requires-clause-outlet : goal.new-requires-clause-outlet
new-requires-clause-outlet g c = this_outlet g.L.LineName.outlet c.loop-reader.place _ _ _ c.loop-reader.invariant.10 c.in-Some-next.ensures.items

pub new-requires-clause-before : goal.new-requires-clause-before
new-requires-clause-before g c = this_before g.O.Write.contents g.L.LineName.before c.loop-reader.place _ _ _ c.loop-reader.invariant.11 c.in-Some.ensures.steps.0

pub new-requires-clause-failures : goal.new-requires-clause-failures
new-requires-clause-failures g c = this_failures g.L.LineName.failures c.loop-reader.place _ _ _ c.loop-reader.invariant.12 c.in-Some.ensures.steps.0

pub loop-reader-preserved : goal.loop-reader-preserved
loop-reader-preserved g c =
    let at = c.loop-reader in
    let was = at.invariant in
    let steps = c.in-Some.ensures.steps in
    let next = c.in-Some-next.ensures.items in
    let short = ap length steps.0 in
    let gone = steps.1 in
    let taken = ap length next in
    let readers = c.push_reserved.ensures in
    let ends = c.push_reserved-in-loop-reader.ensures in
    let dispatches = c.push_reserved-in-loop-reader-2.ensures in (
      turn at.yielded _ _ _ (c.in-Some.reader, c.in-Some.writer) was.0 steps.0,
      omega (arith, short, gone, was.1),
      omega (arith, gone, was.2),
      omega (arith, gone, taken, was.3),
      omega (arith, gone, readers.len, readers.capacity, was.4),
      omega (arith, gone, ends.len, ends.capacity, was.5),
      omega (arith, gone, dispatches.len, dispatches.capacity, was.6),
      omega (arith, dispatches.len, was.7),
      map_more (λ s. s.0) at.yielded _ at.readers.items _ was.8 readers.items,
      mapped_more (λ e. (e.0, e.1)) at.ends.items _ _ _ _ _ was.9 next ends.items,
      next_outlets g.L.LineName.outlet at.place _ _ _ was.10 next,
      next_befores g.O.Write.contents g.L.LineName.before at.place _ _ _ was.11 steps.0,
      next_failures g.L.LineName.failures at.place _ _ _ was.12 steps.0,
    )
