use Rattle.std.proofs.Common.{rules, refl, inl, inr}
use Rattle.xcp_connection.proofs.HeardSoFarLemmas.{heard_further, heard_none}
use Rattle.xcp_framing.proofs.PutPacketLemmas.{by_memory}
use Rattle.xcp_connection.proofs.hearing.HearingWorkHeard.leave.Goals as goal

pub returns : goal.returns
returns g c =
    let m = c.args.self.max_cto in
    record {
      hears = rw (c.of.ensures, c.give_up.ensures.put) (heard_further m _ _ _ _ _ _ _ _ _ _ (heard_none m _ _ _) (by_memory m _ _ _));
      ends = tt;
      failed = search rules;
      fine = search rules;
      single = inr (record {
        serves = rw (c.of.ensures, c.give_up.ensures.put) (by_memory m _ _ _);
        reads = search rules;
        refused = inl (refl, (c.of.ensures, refl, c.give_up.ensures.put));
      });
      stays = g.met.S.Station.same_refl c.args.self.station;
      outlet = c.give_up.ensures.outlet;
      side = search rules;
    }
