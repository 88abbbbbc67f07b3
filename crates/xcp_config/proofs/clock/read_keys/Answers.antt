use Rattle.std.proofs.Common.{List, codes, ◌∙◌, rules, w64}
use mir.Val.{SFits}
use Rattle.std.proofs.lemmas.Int.{to_z-of_z}
use Rattle.std.proofs.lemmas.Result.{err_from_is_err_and}
use Rattle.toml.specs.Data.{Data}
use Rattle.toml.specs.View.{view}
use Rattle.xcp_memory.specs.declared.Key.TheVariants as key
use Rattle.xcp_memory.specs.Limits.{number_limit}
use Rattle.xcp_config.specs.Check.{Check}
use Rattle.xcp_config.specs.TableLayout.{clock_part, clock_setting}
use Rattle.xcp_config.specs.TableChecks.{integer_checks, size_check, clock_key_checks}
use Rattle.xcp_packet.proofs.RowTestLemmas.{holding_1_of_4, holding_2_of_4, holding_3_of_4, behind_3}
use Rattle.xcp_config.proofs.clock.read_keys.Goals as goal

abbrev first : Data → List Check
first s = integer_checks key.ClockSize (number_limit 1 4 key.ClockSize) (clock_setting (codes "size") 4 s)

abbrev second : Data → List Check
second s = size_check (clock_part s).size

abbrev third : Data → List Check
third s = integer_checks key.ClockUnit (number_limit 0 12 key.ClockUnit) (clock_setting (codes "unit") 3 s)

abbrev fourth : Data → List Check
fourth s = integer_checks key.ClockTicks (number_limit 1 65535 key.ClockTicks) (clock_setting (codes "ticks") 1 s)

pub returns-in_err-size-clause-refused : goal.returns-in_err-size-clause-refused
unfolding clock_key_checks
returns-in_err-size-clause-refused c =
    let s = view c.args.clock.now in
    let r = c.from_residual in
    let p = err_from_is_err_and r.result r.ensures.1 in
    rw (p.1, p.2) (holding_1_of_4 (first s) (second s) (third s) (fourth s) _ c.in_err-size.ensures.refused)

pub returns-in_err-check_size-clause-refused : goal.returns-in_err-check_size-clause-refused
unfolding clock_key_checks
returns-in_err-check_size-clause-refused c =
    let s = view c.args.clock.now in
    let r = c.from_residual-in_err-check_size in
    let p = err_from_is_err_and r.result r.ensures.1 in
    let f : SFits w64 c.in_ok-size.size = search rules in
    let h = simp to_z-of_z at c.in_err-check_size.ensures.refused in
    rw (p.1, p.2) (holding_2_of_4 (first s) (second s) (third s) (fourth s) _ c.in_ok-size.ensures.passes (rw c.in_ok-size.ensures.value at h))

pub returns-in_err-unit-clause-refused : goal.returns-in_err-unit-clause-refused
unfolding clock_key_checks
returns-in_err-unit-clause-refused c =
    let s = view c.args.clock.now in
    let r = c.from_residual-in_err-unit in
    let p = err_from_is_err_and r.result r.ensures.1 in
    let f : SFits w64 c.in_ok-size.size = search rules in
    let h = simp to_z-of_z at c.in_ok-check_size.ensures.passes in
    rw (p.1, p.2) (holding_3_of_4 (first s) (second s) (third s) (fourth s) _ c.in_ok-size.ensures.passes (rw c.in_ok-size.ensures.value at h) c.in_err-unit.ensures.refused)

pub returns-in_err-ticks-clause-refused : goal.returns-in_err-ticks-clause-refused
unfolding clock_key_checks
returns-in_err-ticks-clause-refused c =
    let s = view c.args.clock.now in
    let r = c.from_residual-in_err-ticks in
    let p = err_from_is_err_and r.result r.ensures.1 in
    let f : SFits w64 c.in_ok-size.size = search rules in
    let h = simp to_z-of_z at c.in_ok-check_size.ensures.passes in
    rw (p.1, p.2) (behind_3 (first s) (second s) (third s) (fourth s) c.in_ok-size.ensures.passes (rw c.in_ok-size.ensures.value at h) c.in_ok-unit.ensures.passes ∙ c.in_err-ticks.ensures.refused)

pub returns-clause-passes : goal.returns-clause-passes
unfolding clock_key_checks
returns-clause-passes c =
    let s = view c.args.clock.now in
    let f : SFits w64 c.in_ok-size.size = search rules in
    let h = simp to_z-of_z at c.in_ok-check_size.ensures.passes in
    behind_3 (first s) (second s) (third s) (fourth s) c.in_ok-size.ensures.passes (rw c.in_ok-size.ensures.value at h) c.in_ok-unit.ensures.passes ∙ c.in_ok-ticks.ensures.passes
