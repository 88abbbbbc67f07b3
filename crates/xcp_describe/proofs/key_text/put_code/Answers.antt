use Rattle.std.proofs.Common.{rules, true}
use Rattle.std.proofs.lemmas.Fmt.{hex_byte}
use Rattle.xcp_describe.proofs.key_text.put_code.Goals as goal

pub returns : goal.returns
returns c = search (rules, hex_byte true c.args.code c.requires)
