use Rattle.std.proofs.Common.{length, drop, ap, ◌∙◌, sym, arith}
use Rattle.std.proofs.lemmas.List.{length-drop, length-take}
use Rattle.xcp_audit.proofs.head.names.Goals as goal

pub returns-then-head-lt-HEAD_BYTES : goal.returns-then-head-lt-HEAD_BYTES
returns-then-head-lt-HEAD_BYTES c = λ same.
    let head = c.args.head.now in
    let size = sym (length-take 32 (drop 6 head)) ∙ ap length same in
    let rest = length-drop 6 head in
    let short = c.if-head-lt-HEAD_BYTES.true in
    omega (arith, size, rest, short)
