use Rattle.std.proofs.Common.{◌≡◌, ℕ, ◌+◌, ◌<◌, true, false, List, [], ◌∷◌, length, drop, get_or, Some, inr, ◌∙◌, ap, sym}
use Rattle.std.specs.List.{flat_map, enumerate_from}
use Rattle.xcp_packet.specs.Rows.{first_holding, must}
use Rattle.xcp_describe.specs.declared.entry.Entry.{Entry}
use Rattle.xcp_describe.specs.declared.refusal.Why.TheVariants.{Axis}
use Rattle.xcp_describe.specs.declared.refusal.DescribeError.TheVariants.{Parameter}
use Rattle.xcp_describe.specs.Axes.{has_axes}
use Rattle.xcp_describe.specs.EntryFaults.{axis_checks, axis_faults}
use Rattle.xcp_describe.specs.private.EntriesRead.{form_read, forms_of}
use Rattle.xcp_describe.proofs.EntryLemmas.{entry_failed, entry_passed, seen}
use Rattle.xcp_describe.proofs.tables.check_axes.Goals as goal

-- a parameter without its axes is the first one with a fault, from there on
failed : (es : List Entry) (i : ℕ) (e : Entry) → i < length es → e ≡ get_or es i e → has_axes (forms_of es) (form_read e) ≡ false → first_holding (flat_map (axis_checks (forms_of es)) (enumerate_from i (drop i (forms_of es)))) ≡ Some (Parameter i Axis)
failed es i e below is lacks =
    let m = seen form_read es i e below is in
    entry_failed Parameter (λ _. axis_faults (forms_of es)) (forms_of es) i (form_read e) Axis m.below m.is (ap (λ b. first_holding (must b Axis ∷ [])) lacks)

-- one that has them has no fault
passed : (es : List Entry) (i : ℕ) (e : Entry) → i < length es → e ≡ get_or es i e → has_axes (forms_of es) (form_read e) ≡ true → first_holding (flat_map (axis_checks (forms_of es)) (enumerate_from i (drop i (forms_of es)))) ≡ first_holding (flat_map (axis_checks (forms_of es)) (enumerate_from (i + 1) (drop (i + 1) (forms_of es))))
passed es i e below is has =
    let m = seen form_read es i e below is in
    entry_passed Parameter (λ _. axis_faults (forms_of es)) (forms_of es) i (form_read e) m.below m.is (ap (λ b. first_holding (must b Axis ∷ [])) has)

pub returns-then-not-has_axes-clause-refused : goal.returns-then-not-has_axes-clause-refused
returns-then-not-has_axes-clause-refused c = inr (tt, c.loop-i.invariant ∙ failed c.args.parameters.now c.loop-i.i _ c.loop-i-test.true c.index-parameters-i.is (sym c.has_axes.ensures ∙ c.if-not-has_axes.true))

pub loop-i-preserved : goal.loop-i-preserved
loop-i-preserved c = c.loop-i.invariant ∙ passed c.args.parameters.now c.loop-i.i _ c.loop-i-test.true c.index-parameters-i.is (sym c.has_axes.ensures ∙ c.if-not-has_axes.false)
