use Rattle.std.proofs.Common.{List, codes, ◌∙◌, rules, w64}
use mir.Val.{SFits}
use Rattle.std.proofs.lemmas.Int.{to_z-of_z}
use Rattle.std.proofs.lemmas.Result.{err_from_is_err_and}
use Rattle.toml.specs.Data.{Data, get}
use Rattle.toml.specs.View.{view}
use Rattle.xcp_memory.specs.declared.Class.{Class}
use Rattle.xcp_memory.specs.declared.Key.TheVariants as key
use Rattle.xcp_memory.specs.Limits.{signals_address_limit, signals_length_limit}
use Rattle.xcp_config.specs.Check.{Check}
use Rattle.xcp_config.specs.TableLayout.{address_of, length_of}
use Rattle.xcp_config.specs.TableChecks.{integer_checks, end_checks, place_checks}
use Rattle.xcp_packet.proofs.RowTestLemmas.{holding_1_of_3, holding_2_of_3, behind_2}
use Rattle.xcp_config.proofs.signals.read_place.Goals as goal

abbrev first : Data → List Check
first s = integer_checks key.SignalsAddress signals_address_limit (get (codes "address") s)

abbrev second : Class → Data → List Check
second class s = integer_checks key.SignalsLength (signals_length_limit class) (get (codes "length") s)

abbrev third : Data → List Check
third s = end_checks (address_of s) (length_of s)

pub returns-in_err-address-clause-refused : goal.returns-in_err-address-clause-refused
unfolding place_checks
returns-in_err-address-clause-refused c =
    let s = view c.args.signals.now in
    let r = c.from_residual in
    let p = err_from_is_err_and r.result r.ensures.1 in
    rw (p.1, p.2) (holding_1_of_3 (first s) (second c.args.class s) (third s) _ c.in_err-address.ensures.refused)

pub returns-in_err-length-clause-refused : goal.returns-in_err-length-clause-refused
unfolding place_checks
returns-in_err-length-clause-refused c =
    let s = view c.args.signals.now in
    let r = c.from_residual-in_err-length in
    let p = err_from_is_err_and r.result r.ensures.1 in
    rw (p.1, p.2) (holding_2_of_3 (first s) (second c.args.class s) (third s) _ c.in_ok-address.ensures.passes (rw c.limits.ensures.value at c.in_err-length.ensures.refused))

pub returns-in_err-check_end-clause-refused : goal.returns-in_err-check_end-clause-refused
unfolding place_checks
returns-in_err-check_end-clause-refused c =
    let s = view c.args.signals.now in
    let r = c.from_residual-in_err-check_end in
    let p = err_from_is_err_and r.result r.ensures.1 in
    let f : SFits w64 c.in_ok-address.address = search rules in
    let g : SFits w64 c.in_ok-length.length = search rules in
    let h = simp to_z-of_z at c.in_err-check_end.ensures.refused in
    rw (p.1, p.2) (behind_2 (first s) (second c.args.class s) (third s) c.in_ok-address.ensures.passes (rw c.limits.ensures.value at c.in_ok-length.ensures.passes) ∙ (rw (c.in_ok-address.ensures.value, c.in_ok-length.ensures.value) at h))

pub returns-clause-passes : goal.returns-clause-passes
unfolding place_checks
returns-clause-passes c =
    let s = view c.args.signals.now in
    let f : SFits w64 c.in_ok-address.address = search rules in
    let g : SFits w64 c.in_ok-length.length = search rules in
    let h = simp to_z-of_z at c.in_ok-check_end.ensures.passes in
    behind_2 (first s) (second c.args.class s) (third s) c.in_ok-address.ensures.passes (rw c.limits.ensures.value at c.in_ok-length.ensures.passes) ∙ (rw (c.in_ok-address.ensures.value, c.in_ok-length.ensures.value) at h)
