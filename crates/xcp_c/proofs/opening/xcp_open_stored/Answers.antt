use Rattle.std.proofs.Common.{◌≡◌, Option, None, subst, sym}
use Rattle.xcp_c.specs.OpenValue.{OpenValue}
use Rattle.xcp_c.specs.Openings.{TellsFile}
use Rattle.xcp_c.proofs.opening.xcp_open_stored.Goals as goal

pub returns-in-Err-clause-tells : goal.returns-in-Err-clause-tells
returns-in-Err-clause-tells c = λ none.
    let same = c.is_open.ensures.1 in
    let still : c.is_open.new.self.value ≡ None = cc in
    subst (λ (s : Option OpenValue). TellsFile c.args.text.now c.args.file.now c.in-Err.number s) (sym still) (c.in-Err.ensures {u = tt}).tells
