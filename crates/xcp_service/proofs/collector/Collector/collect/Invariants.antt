use Rattle.std.specs.Prelude.{◌≡◌}
use Rattle.xcp_service.specs.Parcels.{given_in}
use Rattle.xcp_service.specs.private.Collected.{IsCollected}
use Rattle.xcp_service.proofs.collector.Collector.collect.Given as goal

abbrev pub invariant-loop-parcel : goal.invariant-loop-parcel
invariant-loop-parcel g l = (l.taker.relay ≡ g.M.Route.relay) × IsCollected g.N.Ledger.parts l.keeper l.taker.taken × g.S.Scribe.wrote l.scribe (given_in l.keeper.chapters)
