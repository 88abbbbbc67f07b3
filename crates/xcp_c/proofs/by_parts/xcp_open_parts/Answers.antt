use Rattle.std.proofs.Common.{◌≡◌, None, inr, rules}
use Rattle.xcp_c.proofs.by_parts.xcp_open_parts.Goals as goal

pub returns-in-Err : goal.returns-in-Err
returns-in-Err c =
    let none : c.args.slave.now.value ≡ None = search rules in
    let same = c.is_open.ensures.1 in
    let still : c.is_open.new.self.value ≡ None = cc in
    inr (none, inr ((c.in-Err.ensures {u = tt}).fault, still))
