use Rattle.std.proofs.Common.{◌++◌, ◌∙◌, ap, string_bytes}
use Rattle.xcp_describe.specs.Transports.{block_begin}
use Rattle.xcp_describe.proofs.TransportLemmas.{three_pushed}
use Rattle.xcp_describe.proofs.transport.Transport.put_begin.Goals as goal

pub returns : goal.returns
unfolding block_begin
returns c =
    three_pushed c.push_str-3.result _ _ _ _ _ _ _ c.in_ok-push_str.ensures.bytes
    (c.in_ok-push_str-2.ensures.bytes ∙ ap (λ name. string_bytes c.push_str.new.self ++ name) c.block_name.ensures)
    c.push_str-3.ensures.bytes
