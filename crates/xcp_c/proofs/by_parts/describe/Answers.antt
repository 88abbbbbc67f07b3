use Rattle.std.proofs.Common.{◌+◌, ℕ, inl, inr, ap, rules}
use Rattle.xcp_c.specs.PartsOpenings.{IsWholeStruct}
use Rattle.xcp_c.proofs.by_parts.describe.Goals as goal

pub returns-in-Err-clause-fault : goal.returns-in-Err-clause-fault
returns-in-Err-clause-fault c =
    let whole : IsWholeStruct c.args.parts.now c.args.reference.now = search rules in
    let says = c.in-Ok.ensures in
    let first = (c.new.ensures.refused c.in-Err.fault).0 c.in-Err.is in
    inr (inr (inl (c.in-Err.fault, record { whole = whole; parts = c.in-Ok.made; says = says; first = first }, ap (λ (n : ℕ). 3 + n) c.number.ensures)))
