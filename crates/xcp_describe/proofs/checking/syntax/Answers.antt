use Rattle.std.proofs.Common.{rules}
use Rattle.std.specs.Char.{encode_utf8}
use Rattle.xcp_describe.proofs.checking.syntax.Goals as goal

pub returns : goal.returns
unfolding encode_utf8
returns c =
    let p = c.in_ok-put_lines.ensures in
    record { words = p.more; plain = p.plain; line = search (rules, p.is) }
