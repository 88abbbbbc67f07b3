use Rattle.std.proofs.Common.{ℕ, List, ◌∙◌, codes, inr}
use Rattle.toml.specs.Data.{Data, get}
use Rattle.toml.specs.View.{view}
use Rattle.xcp_memory.specs.declared.Key.TheVariants as key
use Rattle.xcp_config.specs.Check.{Check}
use Rattle.xcp_memory.specs.Limits.{name_limit, cycle_limit, unit_limit, priority_limit}
use Rattle.xcp_config.specs.TableLayout.{setting}
use Rattle.xcp_config.specs.TableChecks.{text_checks, integer_checks, event_checks}
use Rattle.std.proofs.lemmas.Result.{err_from_is_err_and}
use Rattle.xcp_packet.proofs.RowTestLemmas.{behind_3, holding_1_of_4, holding_2_of_4, holding_3_of_4}
use Rattle.xcp_config.proofs.CheckLemmas.{or_so}
use Rattle.xcp_config.proofs.events.read_event.Goals as goal

abbrev name : ℕ → Data → List Check
name i e = text_checks (key.Name i) (name_limit i) (get (codes "name") e)

abbrev cycle : ℕ → Data → List Check
cycle i e = integer_checks (key.Cycle i) (cycle_limit i) (setting (codes "cycle") e)

abbrev unit : ℕ → Data → List Check
unit i e = integer_checks (key.Unit i) (unit_limit i) (setting (codes "unit") e)

abbrev priority : ℕ → Data → List Check
priority i e = integer_checks (key.Priority i) (priority_limit i) (setting (codes "priority") e)

pub returns-in_err-name-clause-refused : goal.returns-in_err-name-clause-refused
unfolding event_checks
returns-in_err-name-clause-refused c =
    let e = view c.args.table.now in
    let r = c.from_residual in
    let p = err_from_is_err_and r.result r.ensures.1 in
    rw (p.1, p.2) (or_so c.in_err-name.ensures.refused (λ k. holding_1_of_4 (name c.args.number e) (cycle c.args.number e) (unit c.args.number e) (priority c.args.number e) _ k))

pub returns-in_err-cycle-clause-refused : goal.returns-in_err-cycle-clause-refused
unfolding event_checks
returns-in_err-cycle-clause-refused c =
    let e = view c.args.table.now in
    let r = c.from_residual-in_err-cycle in
    let p = err_from_is_err_and r.result r.ensures.1 in
    rw (p.1, p.2) (inr (holding_2_of_4 (name c.args.number e) (cycle c.args.number e) (unit c.args.number e) (priority c.args.number e) _ c.in_ok-name.ensures.passes c.in_err-cycle.ensures.refused))

pub returns-in_err-unit-clause-refused : goal.returns-in_err-unit-clause-refused
unfolding event_checks
returns-in_err-unit-clause-refused c =
    let e = view c.args.table.now in
    let r = c.from_residual-in_err-unit in
    let p = err_from_is_err_and r.result r.ensures.1 in
    rw (p.1, p.2) (inr (holding_3_of_4 (name c.args.number e) (cycle c.args.number e) (unit c.args.number e) (priority c.args.number e) _ c.in_ok-name.ensures.passes c.in_ok-cycle.ensures.passes c.in_err-unit.ensures.refused))

pub returns-in_err-priority-clause-refused : goal.returns-in_err-priority-clause-refused
unfolding event_checks
returns-in_err-priority-clause-refused c =
    let e = view c.args.table.now in
    let r = c.from_residual-in_err-priority in
    let p = err_from_is_err_and r.result r.ensures.1 in
    rw (p.1, p.2) (inr (behind_3 (name c.args.number e) (cycle c.args.number e) (unit c.args.number e) (priority c.args.number e) c.in_ok-name.ensures.passes c.in_ok-cycle.ensures.passes c.in_ok-unit.ensures.passes ∙ c.in_err-priority.ensures.refused))

pub returns-clause-passes : goal.returns-clause-passes
unfolding event_checks
returns-clause-passes c =
    let e = view c.args.table.now in
    behind_3 (name c.args.number e) (cycle c.args.number e) (unit c.args.number e) (priority c.args.number e) c.in_ok-name.ensures.passes c.in_ok-cycle.ensures.passes c.in_ok-unit.ensures.passes ∙ c.in_ok-priority.ensures.passes
