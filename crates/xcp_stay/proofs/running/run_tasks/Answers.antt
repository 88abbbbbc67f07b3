use denote.Param.Send.{sendable}
use Rattle.std.proofs.Crossing.{crosses}
use Rattle.xcp_stay.proofs.CrossingLemmas.{rested_crosses, ticker_crosses}
use Rattle.xcp_locked.proofs.PairedListLemmas.{zip_of}
use Rattle.xcp_stay.specs.Team.{TaskLeft}
use Rattle.xcp_stay.proofs.TeamLemmas.{tasks_served}
use Rattle.xcp_stay.proofs.running.run_tasks.Goals as goal

pub run_crews_and-requires-send-T : goal.run_crews_and-requires-send-T
run_crews_and-requires-send-T g c κs within = search (sendable, crosses, rested_crosses) depth 12

pub run_crews_and-requires-send-W : goal.run_crews_and-requires-send-W
run_crews_and-requires-send-W g c κs within = search (sendable, crosses, ticker_crosses) depth 12

pub returns : goal.returns
returns g c =
    let made = c.in_ok-tickers.ensures {u = tt} in
    let gave = c.in_ok-_none.ensures {u = tt} in
    record {
      served = tasks_served g.N.Name.layout (λ d. d.member) c.in_ok-tickers.tickers.items c.in_ok-_none.rested.items c.args.members.items made.numbered made.members
          (zip_of (λ t d. TaskLeft g.N.Name.layout t d.member) c.in_ok-tickers.tickers.items c.in_ok-_none.rested.items gave.works.all (λ i x y low. (_, gave.works.each i x y low)));
    }
