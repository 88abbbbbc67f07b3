use Rattle.std.proofs.Common.{◌∙◌}
use Rattle.xcp_describe.proofs.TransportLemmas.{interface_pushed}
use Rattle.xcp_describe.proofs.describing.put_interface.Goals as goal

pub returns : goal.returns
returns c =
    interface_pushed c.args.reached.transport c.args.reached.host.now c.args.reached.port _ c.push_str-3.result _ _ _ _ _ _ _
    c.lines.ensures.byte (c.as_str-2.ensures.value ∙ c.in_ok-lines.ensures.lines)
    c.in_ok-push_str.ensures.bytes c.in_ok-push_str-2.ensures.bytes c.in_ok-put_block.ensures c.push_str-3.ensures.bytes
