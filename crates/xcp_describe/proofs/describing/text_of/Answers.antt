use Rattle.std.proofs.Common.{◌∙◌}
use Rattle.xcp_describe.proofs.TransportLemmas.{interface_then}
use Rattle.xcp_describe.proofs.describing.text_of.Goals as goal

pub returns-clause-transport : goal.returns-clause-transport
returns-clause-transport c =
    c.whole.ensures.transport c.args.reached.transport c.args.reached.host.now c.args.reached.port
    (rw c.as_str-2.ensures.value c.in_ok-put_front.ensures)
    (interface_then c.args.reached.transport c.args.reached.host.now c.args.reached.port _ _ _ c.in_ok-put_interface.ensures (c.as_str-4.ensures.value ∙ c.in_ok-push_str.ensures.bytes))
