use Rattle.std.proofs.Common.{◌≡◌, map, refl, Some, ◌∙◌, sym, arith, rules}
use Rattle.std.proofs.lemmas.List.{length-map}
use Rattle.std.proofs.lemmas.Bool.Decides.{nat_tests}
use Rattle.toml.specs.Data.{get, as_array}
use Rattle.toml.specs.View.{view, items_of}
use Rattle.xcp_config.proofs.TableArrayLemmas.{has_members, counted}
use Rattle.xcp_config.proofs.values.tables_in.Goals as goal

pub returns-then-not-all_tables-clause-refused : goal.returns-then-not-all_tables-clause-refused
returns-then-not-all_tables-clause-refused c =
    let v = get c.args.name.now (view c.args.table.now) in
    let ds = map view c.deref.result.now in
    let e : v ≡ Some (view c.in-Some.value.now) = search rules in
    let f : as_array (view c.in-Some.value.now) ≡ Some (items_of ds) = rw c.deref.ensures.value (search rules) in
    let h = counted c.args.key c.args.most v ds (has_members v _ ds e f) in
    let q = sym c.all_tables.ensures ∙ c.if-not-all_tables.true in
    h ∙ (rw q refl)

pub returns-then-len-most-clause-refused : goal.returns-then-len-most-clause-refused
returns-then-len-most-clause-refused c =
    let v = get c.args.name.now (view c.args.table.now) in
    let ds = map view c.deref.result.now in
    let e : v ≡ Some (view c.in-Some.value.now) = search rules in
    let f : as_array (view c.in-Some.value.now) ≡ Some (items_of ds) = rw c.deref.ensures.value (search rules) in
    let h = counted c.args.key c.args.most v ds (has_members v _ ds e f) in
    let q = sym c.all_tables.ensures ∙ c.if-not-all_tables.false in
    let n = length-map c.deref.result.now view in
    h ∙ (rw q (grind (arith, nat_tests)))

pub returns-clause-passes : goal.returns-clause-passes
returns-clause-passes c =
    let v = get c.args.name.now (view c.args.table.now) in
    let ds = map view c.deref.result.now in
    let e : v ≡ Some (view c.in-Some.value.now) = search rules in
    let f : as_array (view c.in-Some.value.now) ≡ Some (items_of ds) = rw c.deref.ensures.value (search rules) in
    let h = counted c.args.key c.args.most v ds (has_members v _ ds e f) in
    let q = sym c.all_tables.ensures ∙ c.if-not-all_tables.false in
    let n = length-map c.deref.result.now view in
    h ∙ (rw q (grind (arith, nat_tests)))

pub returns-clause-value : goal.returns-clause-value
returns-clause-value c =
    let v = get c.args.name.now (view c.args.table.now) in
    let ds = map view c.deref.result.now in
    let e : v ≡ Some (view c.in-Some.value.now) = search rules in
    let f : as_array (view c.in-Some.value.now) ≡ Some (items_of ds) = rw c.deref.ensures.value (search rules) in
    let h = has_members v _ ds e f in
    rw c.deref-2.ensures.value (rw (sym c.deref.ensures.value) (sym h.members))
