use Rattle.std.proofs.Common.{◌≡◌, Option, None, subst, sym}
use Rattle.xcp_c.specs.DataOpenings.{TellsData}
use Rattle.xcp_c.specs.OpenValue.{OpenValue}
use Rattle.xcp_c.proofs.DataLemmas.{fault_tells}
use Rattle.xcp_c.proofs.by_data.xcp_open_data.Goals as goal

pub returns-in-Err-clause-tells : goal.returns-in-Err-clause-tells
returns-in-Err-clause-tells c = λ none.
    let same = c.is_open.ensures.1 in
    let still : c.is_open.new.self.value ≡ None = cc in
    let told = fault_tells c.args.text.now c.args.sizes.now c.args.bytes.now c.in-Err.fault (c.in-Err.ensures {u = tt}).fault in
    subst (λ (s : Option OpenValue). TellsData c.args.text.now c.args.sizes.now c.args.bytes.now c.in-Err.fault s) (sym still) told
