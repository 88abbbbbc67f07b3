use Rattle.xcp_describe.proofs.TransportLemmas.{known_pushed}
use Rattle.xcp_describe.proofs.aml.put_grammar.Goals as goal

pub returns : goal.returns
returns c = known_pushed c.args.transport c.push_str.result _ _ _ _ c.in_ok-put_known.ensures c.push_str.ensures.bytes
