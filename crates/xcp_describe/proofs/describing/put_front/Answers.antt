use Rattle.xcp_describe.proofs.TransportLemmas.{known_then_pushed}
use Rattle.xcp_describe.proofs.describing.put_front.Goals as goal

pub returns : goal.returns
returns c = known_then_pushed c.args.transport c.push_str-2.result _ _ _ c.in_ok-put_grammar.ensures c.push_str-2.ensures.bytes
