use Rattle.std.proofs.Common.{rules, ◌≡◌, true, false, None}
use Rattle.xcp_outlet.specs.private.KnownHalves.{message}
use Rattle.xcp_outlet.proofs.SendingLemmas.{for_message, data_ends, replies_end}
use Rattle.xcp_outlet.proofs.line.Line.add.Goals as goal

pub returns-then-message : goal.returns-then-message
returns-then-message g c before failures taken p =
    let is : message true None ≡ c.args.message = search rules in
    for_message _ taken _ _ is (data_ends c.args.self.now taken p)

pub returns-in_default : goal.returns-in_default
returns-in_default g c before failures taken p =
    let is : message false None ≡ c.args.message = search rules in
    for_message _ taken _ _ is (replies_end c.args.self.now taken p)

pub returns : goal.returns
returns g c before failures taken p =
    let more = c.add_batch.ensures before failures taken c.args.message.from_data p in
    for_message _ taken _ _ (search rules) more
