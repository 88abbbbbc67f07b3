use Rattle.std.proofs.Common.{◌≡◌, Option, None, inr, rules, subst, sym}
use Rattle.xcp_c.specs.DataOpenings.{TellsDataPages}
use Rattle.xcp_c.specs.OpenValue.{OpenValue}
use Rattle.xcp_c.proofs.by_data.xcp_open_data_stored.Goals as goal

pub returns-in-Err-clause-opens : goal.returns-in-Err-clause-opens
returns-in-Err-clause-opens c =
    let none : c.args.slave.now.value ≡ None = search rules in
    let same = c.is_open.ensures.1 in
    let still : c.is_open.new.self.value ≡ None = cc in
    inr (none, inr ((c.in-Err.ensures {u = tt}).fault, still))

pub returns-in-Err-clause-tells : goal.returns-in-Err-clause-tells
returns-in-Err-clause-tells c = λ none.
    let same = c.is_open.ensures.1 in
    let still : c.is_open.new.self.value ≡ None = cc in
    subst (λ (s : Option OpenValue). TellsDataPages c.args.text.now c.args.sizes.now c.args.bytes.now c.args.file.now c.in-Err.number s) (sym still) (c.in-Err.ensures {u = tt}).tells
