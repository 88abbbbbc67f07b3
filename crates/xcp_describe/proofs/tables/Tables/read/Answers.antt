use Rattle.std.proofs.Common.{◌∙◌, inl, inr}
use Rattle.std.proofs.lemmas.Result.{err_from_is_err_and}
use Rattle.toml.specs.View.{view}
use Rattle.xcp_packet.proofs.RowTestLemmas.{holding_left, none_left}
use Rattle.xcp_describe.specs.EntryFaults.{entries_checks, measurements_checks, parameters_checks}
use Rattle.xcp_describe.proofs.EntryLemmas.{entry_or_memory}
use Rattle.xcp_describe.proofs.tables.Tables.read.Goals as goal

pub returns-in_err-parameters-clause-first : goal.returns-in_err-parameters-clause-first
unfolding entries_checks
returns-in_err-parameters-clause-first c =
    let t = view c.args.document.now in
    let l = c.args.layout.now in
    let p = err_from_is_err_and c.from_residual.result c.from_residual.ensures.1 in
    rw (p.1, p.2) (elim c.in_err-parameters.ensures.refused [ inl m ↦ inl m | inr k ↦ inr (k.0, holding_left (parameters_checks l t) (measurements_checks l t) _ k.1) ])

pub returns-in_err-measurements-clause-first : goal.returns-in_err-measurements-clause-first
unfolding entries_checks
returns-in_err-measurements-clause-first c =
    let t = view c.args.document.now in
    let l = c.args.layout.now in
    let p = err_from_is_err_and c.from_residual-in_err-measurements.result c.from_residual-in_err-measurements.ensures.1 in
    let same = none_left (parameters_checks l t) (measurements_checks l t) c.in_ok-parameters.ensures.passes in
    rw (p.1, p.2) (elim c.in_err-measurements.ensures.refused [ inl m ↦ inl m | inr k ↦ inr (k.0, same ∙ k.1) ])

pub returns-clause-passes : goal.returns-clause-passes
unfolding entries_checks
returns-clause-passes c =
    let t = view c.args.document.now in
    let l = c.args.layout.now in
    none_left (parameters_checks l t) (measurements_checks l t) c.in_ok-parameters.ensures.passes ∙ c.in_ok-measurements.ensures.passes

pub returns-in_err-parameters-clause-refused : goal.returns-in_err-parameters-clause-refused
returns-in_err-parameters-clause-refused c =
    let p = err_from_is_err_and c.from_residual.result c.from_residual.ensures.1 in
    rw (p.1, p.2) (entry_or_memory _ _ c.in_err-parameters.ensures.refused)

pub returns-in_err-measurements-clause-refused : goal.returns-in_err-measurements-clause-refused
returns-in_err-measurements-clause-refused c =
    let p = err_from_is_err_and c.from_residual-in_err-measurements.result c.from_residual-in_err-measurements.ensures.1 in
    rw (p.1, p.2) (entry_or_memory _ _ c.in_err-measurements.ensures.refused)
