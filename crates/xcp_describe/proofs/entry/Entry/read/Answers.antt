use Rattle.std.proofs.Common.{◌≡◌, ◌∙◌, ◌∷◌, sym, rules, true, codes, Option, Some, None, ap, is_some, unwrap_or, option_and_then}
use Rattle.std.proofs.lemmas.Result.{err_from_is_err_and}
use Rattle.std.specs.Float.{Float, float_one, float_zero}
use Rattle.toml.specs.Data.{Data, as_integer, as_str, get}
use Rattle.toml.specs.View.{view}
use Rattle.xcp_packet.specs.Rows.{first_holding, must}
use Rattle.xcp_packet.proofs.RowTestLemmas.{behind_3, holding_1_of_4, holding_3_of_4}
use Rattle.xcp_memory.specs.Limits.{is_within}
use Rattle.xcp_describe.specs.declared.refusal.Why.{Why}
use Rattle.xcp_describe.specs.declared.refusal.Why.TheVariants.{About, Address, Kind, Name, Unit}
use Rattle.xcp_describe.specs.EntryValues.{ValueType, bounds_in, bounds_of, factor_in, factor_of, in_order, in_unit, is_name, offset_in, offset_of, some_and, type_in, type_of, ubyte}
use Rattle.xcp_describe.specs.EntryFaults.{entry_faults, key_faults, limit_faults, scale_faults, shape_faults, text_faults}
use Rattle.xcp_describe.proofs.entry.Entry.read.Goals as goal

-- the faults of limits that are read with these bounds and this factor
limits_are : (d : Data) (b c : Float × Float) (f g : Float) (r : Option Why) → b ≡ c → f ≡ g → first_holding (limit_faults b f d) ≡ r → first_holding (limit_faults c g d) ≡ r
limits_are d b c f g r hb hf h = ap (λ x. first_holding (limit_faults c x d)) (sym hf) ∙ ap (λ x. first_holding (limit_faults x f d)) (sym hb) ∙ h

-- the bounds of a type in the unit are those of the entry
bounds_are : (d : Data) (t : ValueType) (b r : Float × Float) (f o : Float) → type_in d ≡ Some t → b ≡ (t.least, t.greatest) → factor_in d ≡ Some f → offset_in d ≡ Some o → r ≡ in_order (in_unit f o b.0) (in_unit f o b.1) → r ≡ bounds_of d
bounds_are d t b r f o ht hb hf ho hr =
    let et : type_of d ≡ t = ap (λ x. unwrap_or x ubyte) ht in
    let ef : factor_of d ≡ f = ap (λ x. unwrap_or x float_one) hf in
    let eo : offset_of d ≡ o = ap (λ x. unwrap_or x float_zero) ho in
    hr
    ∙ ap (λ (x : Float × Float). in_order (in_unit f o x.0) (in_unit f o x.1)) hb
    ∙ sym (ap (λ v. bounds_in v (factor_of d) (offset_of d)) et ∙ ap (λ v. bounds_in t v (offset_of d)) ef ∙ ap (bounds_in t f) eo)

factor_is : (d : Data) (f : Float) → factor_in d ≡ Some f → f ≡ factor_of d
factor_is d f h = sym (ap (λ x. unwrap_or x float_one) h)

-- behind a name, an address and a type the fault of the shape is the first
shape_comes_next : (d : Data) (t : ValueType) → some_and is_name (option_and_then as_str (get (codes "name") d)) ≡ true → some_and (is_within 0 0xFFFF_FFFF) (option_and_then as_integer (get (codes "address") d)) ≡ true → type_in d ≡ Some t → first_holding (key_faults d) ≡ first_holding (shape_faults d)
shape_comes_next d t name address type =
    ap (λ b. first_holding (must b Name ∷ must (some_and (is_within 0 0xFFFF_FFFF) (option_and_then as_integer (get (codes "address") d))) Address ∷ must (is_some (type_in d)) Kind ∷ shape_faults d)) name
    ∙ ap (λ b. first_holding (must b Address ∷ must (is_some (type_in d)) Kind ∷ shape_faults d)) address
    ∙ ap (λ v. first_holding (must (is_some v) Kind ∷ shape_faults d)) type

pub returns-in_err-shape-clause-refused : goal.returns-in_err-shape-clause-refused
unfolding entry_faults
returns-in_err-shape-clause-refused c =
    let d = view c.args.table.now in
    let p = err_from_is_err_and c.from_residual-in_err-shape.result c.from_residual-in_err-shape.ensures.1 in
    let next = shape_comes_next d _ c.in_ok-name.ensures.passes c.in_ok-address.ensures.passes c.in_ok-kind.ensures.value in
    rw (p.1, p.2) (holding_1_of_4 (key_faults d) (scale_faults d) (limit_faults (bounds_of d) (factor_of d) d) (text_faults d) _ (next ∙ c.in_err-shape.ensures.refused))

pub returns-in_err-low-clause-refused : goal.returns-in_err-low-clause-refused
unfolding entry_faults
returns-in_err-low-clause-refused c =
    let d = view c.args.table.now in
    let p = err_from_is_err_and c.from_residual-in_err-low.result c.from_residual-in_err-low.ensures.1 in
    let keys : first_holding (key_faults d) ≡ None = search rules in
    let scale : first_holding (scale_faults d) ≡ None = search rules in
    let bounds = bounds_are d _ _ _ _ _ c.in_ok-kind.ensures.value c.bounds.ensures c.in_ok-factor.ensures.value c.in_ok-offset.ensures.value c.scaled.ensures in
    let limits = limits_are d _ _ _ _ _ bounds (factor_is d _ c.in_ok-factor.ensures.value) c.in_err-low.ensures.refused in
    rw (p.1, p.2) (holding_3_of_4 (key_faults d) (scale_faults d) (limit_faults (bounds_of d) (factor_of d) d) (text_faults d) _ keys scale limits)

pub returns-in_err-text_in-clause-refused : goal.returns-in_err-text_in-clause-refused
unfolding entry_faults
returns-in_err-text_in-clause-refused c =
    let d = view c.args.table.now in
    let p = err_from_is_err_and c.from_residual-in_err-text_in.result c.from_residual-in_err-text_in.ensures.1 in
    let keys : first_holding (key_faults d) ≡ None = search rules in
    let scale : first_holding (scale_faults d) ≡ None = search rules in
    let bounds = bounds_are d _ _ _ _ _ c.in_ok-kind.ensures.value c.bounds.ensures c.in_ok-factor.ensures.value c.in_ok-offset.ensures.value c.scaled.ensures in
    let limits = limits_are d _ _ _ _ _ bounds (factor_is d _ c.in_ok-factor.ensures.value) c.in_ok-low.ensures.passes in
    let texts : first_holding (text_faults d) ≡ Some Unit = search rules in
    let why : c.in_err-text_in.field-0.0 ≡ Unit = c.in_err-text_in.ensures.refused.0 in
    rw (p.1, p.2) (behind_3 (key_faults d) (scale_faults d) (limit_faults (bounds_of d) (factor_of d) d) (text_faults d) keys scale limits ∙ texts ∙ ap Some (sym why))

pub returns-in_err-text_in-2-clause-refused : goal.returns-in_err-text_in-2-clause-refused
unfolding entry_faults
returns-in_err-text_in-2-clause-refused c =
    let d = view c.args.table.now in
    let p = err_from_is_err_and c.from_residual-in_err-text_in-2.result c.from_residual-in_err-text_in-2.ensures.1 in
    let keys : first_holding (key_faults d) ≡ None = search rules in
    let scale : first_holding (scale_faults d) ≡ None = search rules in
    let bounds = bounds_are d _ _ _ _ _ c.in_ok-kind.ensures.value c.bounds.ensures c.in_ok-factor.ensures.value c.in_ok-offset.ensures.value c.scaled.ensures in
    let limits = limits_are d _ _ _ _ _ bounds (factor_is d _ c.in_ok-factor.ensures.value) c.in_ok-low.ensures.passes in
    let texts : first_holding (text_faults d) ≡ Some About = search rules in
    let why : c.in_err-text_in-2.field-0.0 ≡ About = c.in_err-text_in-2.ensures.refused.0 in
    rw (p.1, p.2) (behind_3 (key_faults d) (scale_faults d) (limit_faults (bounds_of d) (factor_of d) d) (text_faults d) keys scale limits ∙ texts ∙ ap Some (sym why))

pub returns-clause-passes : goal.returns-clause-passes
unfolding entry_faults
returns-clause-passes c =
    let d = view c.args.table.now in
    let keys : first_holding (key_faults d) ≡ None = search rules in
    let scale : first_holding (scale_faults d) ≡ None = search rules in
    let bounds = bounds_are d _ _ _ _ _ c.in_ok-kind.ensures.value c.bounds.ensures c.in_ok-factor.ensures.value c.in_ok-offset.ensures.value c.scaled.ensures in
    let limits = limits_are d _ _ _ _ _ bounds (factor_is d _ c.in_ok-factor.ensures.value) c.in_ok-low.ensures.passes in
    let texts : first_holding (text_faults d) ≡ None = search rules in
    behind_3 (key_faults d) (scale_faults d) (limit_faults (bounds_of d) (factor_of d) d) (text_faults d) keys scale limits ∙ texts
