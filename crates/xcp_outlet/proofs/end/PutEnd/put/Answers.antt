use Rattle.std.proofs.Common.{Some}
use Rattle.xcp_outlet.specs.private.EndOfPass.{seen_end}
use Rattle.xcp_outlet.proofs.ChannelRuleLemmas.{puts}
use Rattle.xcp_outlet.proofs.end.PutEnd.put.Goals as goal

pub send_as-requires-clause-rule : goal.send_as-requires-clause-rule
send_as-requires-clause-rule g c = puts _ _ c.self.inside.is_data (Some c.args.batch) (seen_end c.self.inside.is_data c.self.inside.pass).put _ c.self.invariant.1
