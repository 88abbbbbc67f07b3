use Rattle.std.proofs.Common.{◌∙◌, ap, sym, not}
use Rattle.std.proofs.lemmas.Result.{err_from_is_err_and}
use Rattle.toml.specs.View.{view}
use Rattle.xcp_config.specs.TableLayout.{clock_in}
use Rattle.xcp_config.proofs.CheckLemmas.{if_ok, if_err}
use Rattle.xcp_config.proofs.ClockLemmas.{by_keys, missing, no_clock_passes, no_table, present}
use Rattle.xcp_config.proofs.clock.read_clock.Goals as goal

pub returns-then-is_none-clause-passes : goal.returns-then-is_none-clause-passes
returns-then-is_none-clause-passes c = no_clock_passes (view c.args.table.now) (missing _ c.get.result _ c.get.ensures (c.is_none.ensures ∙ ap not c.if-is_none.true))

pub returns-then-is_none-clause-value : goal.returns-then-is_none-clause-value
returns-then-is_none-clause-value c = ap clock_in (sym (missing _ c.get.result _ c.get.ensures (c.is_none.ensures ∙ ap not c.if-is_none.true)))

pub returns-in_err-clock-clause-refused : goal.returns-in_err-clock-clause-refused
returns-in_err-clock-clause-refused c =
    let t = view c.args.table.now in
    let p = err_from_is_err_and c.from_residual.result c.from_residual.ensures.1 in
    let d = present _ c.get.result _ c.get.ensures (c.is_none.ensures ∙ ap not c.if-is_none.false) in
    rw (p.1, p.2) (no_table t d.0 _ d.1 c.in_err-clock.ensures.refused)

pub returns-clause-passes : goal.returns-clause-passes
returns-clause-passes c =
    let t = view c.args.table.now in
    if_ok c.read_keys.result _ _ (λ s k. by_keys t _ _ c.in_ok-clock.ensures.value c.in_ok-clock.ensures.passes k) c.read_keys.ensures.passes

pub returns-clause-value : goal.returns-clause-value
returns-clause-value c =
    if_ok c.read_keys.result _ _ (λ s k. k ∙ ap clock_in (sym c.in_ok-clock.ensures.value)) c.read_keys.ensures.value

pub returns-clause-refused : goal.returns-clause-refused
returns-clause-refused c =
    let t = view c.args.table.now in
    if_err c.read_keys.result _ _ (λ f k. by_keys t _ _ c.in_ok-clock.ensures.value c.in_ok-clock.ensures.passes k) c.read_keys.ensures.refused
