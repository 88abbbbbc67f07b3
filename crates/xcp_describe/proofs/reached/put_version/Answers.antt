use Rattle.std.proofs.Common.{◌++◌, ◌∙◌, ap, string_bytes}
use Rattle.xcp_describe.specs.Transports.{hex_text, version_line}
use Rattle.xcp_describe.proofs.TransportLemmas.{three_pushed}
use Rattle.xcp_describe.proofs.reached.put_version.Goals as goal

pub returns : goal.returns
unfolding version_line
returns c =
    three_pushed c.push_str-2.result _ _ _ _ _ _ _ c.in_ok-push_str.ensures.bytes
    (c.in_ok-put_hex.ensures ∙ ap (λ byte. string_bytes c.push_str.new.self ++ hex_text byte) c.from.ensures)
    c.push_str-2.ensures.bytes
