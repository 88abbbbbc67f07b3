use Rattle.std.proofs.Common.{◌∙◌, ap, inl, inr}
use Rattle.std.proofs.lemmas.Result.{err_from_is_err_and}
use Rattle.toml.specs.View.{view}
use Rattle.xcp_describe.specs.private.EntriesRead.{forms_of}
use Rattle.xcp_describe.proofs.EntryLemmas.{axes_come_last, own_fault_comes_first}
use Rattle.xcp_describe.proofs.tables.read_parameters.Goals as goal

pub returns-in_err-parameters-clause-refused : goal.returns-in_err-parameters-clause-refused
returns-in_err-parameters-clause-refused c =
    let t = view c.args.document.now in
    let p = err_from_is_err_and c.from_residual.result c.from_residual.ensures.1 in
    rw (p.1, p.2) (elim c.in_err-parameters.ensures.refused [ inl m ↦ inl m | inr k ↦ inr (k.0, own_fault_comes_first c.args.layout.now t _ _ c.in-Some.ensures.0 c.in-Some.ensures.1 k.1) ])

pub returns-in_err-check_axes-clause-refused : goal.returns-in_err-check_axes-clause-refused
returns-in_err-check_axes-clause-refused c =
    let t = view c.args.document.now in
    let p = err_from_is_err_and c.from_residual-in_err-check_axes.result c.from_residual-in_err-check_axes.ensures.1 in
    let forms = ap forms_of c.as_slice.ensures.value ∙ c.in_ok-parameters.ensures.forms in
    let last = axes_come_last c.args.layout.now t _ _ c.in-Some.ensures.0 c.in-Some.ensures.1 forms c.in_ok-parameters.ensures.passes in
    rw (p.1, p.2) (elim c.in_err-check_axes.ensures.refused [ inl m ↦ inl m | inr k ↦ inr (k.0, last ∙ k.1) ])

pub returns-clause-passes : goal.returns-clause-passes
returns-clause-passes c =
    let t = view c.args.document.now in
    let forms = ap forms_of c.as_slice.ensures.value ∙ c.in_ok-parameters.ensures.forms in
    let last = axes_come_last c.args.layout.now t _ _ c.in-Some.ensures.0 c.in-Some.ensures.1 forms c.in_ok-parameters.ensures.passes in
    last ∙ c.in_ok-check_axes.ensures.passes
