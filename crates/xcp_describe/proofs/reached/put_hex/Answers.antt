use Rattle.std.proofs.Common.{rules, true}
use Rattle.std.proofs.lemmas.Fmt.{hex_byte}
use Rattle.xcp_describe.proofs.reached.put_hex.Goals as goal

pub returns : goal.returns
returns c = search (rules, hex_byte true c.args.byte c.requires)
