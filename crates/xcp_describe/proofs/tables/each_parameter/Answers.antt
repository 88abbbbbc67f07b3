use Rattle.std.proofs.Common.{ℕ, Bool, List, [], ◌∷◌, ◌++◌, map, take, inr, ◌∙◌, ap, sym}
use Rattle.toml.specs.Data.{Data}
use Rattle.toml.specs.View.{view}
use Rattle.xcp_memory.specs.Layout.{LayoutValue}
use Rattle.xcp_packet.specs.Rows.{first_holding}
use Rattle.xcp_describe.specs.declared.refusal.Why.{Why}
use Rattle.xcp_describe.specs.declared.refusal.DescribeError.TheVariants.{Parameter}
use Rattle.xcp_describe.specs.EntryFaults.{parameter_faults}
use Rattle.xcp_describe.specs.EntryValues.{name_of}
use Rattle.xcp_describe.specs.Axes.{form_of}
use Rattle.xcp_describe.specs.private.EntriesRead.{form_read, names_of}
use Rattle.xcp_describe.proofs.EntryLemmas.{entry_failed, entry_passed, one_more, seen}
use Rattle.xcp_describe.proofs.tables.each_parameter.Goals as goal

-- the faults of entry i
abbrev faults : LayoutValue → List Data → ℕ → Data → List (Bool × Why)
faults l ds i d = parameter_faults l (map name_of (take i ds)) d

pub returns-in-Err-clause-refused : goal.returns-in-Err-clause-refused
returns-in-Err-clause-refused c =
    let l = c.args.layout.now in
    let ds = map view c.args.members.now in
    let d = view c.index-members-i.result in
    let m = seen view c.args.members.now c.loop-i.i c.index-members-i.result c.loop-i-test.true c.index-members-i.is in
    let names = ap (λ ns. first_holding (parameter_faults l ns d)) (sym (ap names_of c.as_slice.ensures.value ∙ c.loop-i.invariant.names)) in
    inr (tt, c.loop-i.invariant.checked ∙ entry_failed Parameter (faults l ds) ds c.loop-i.i d _ m.below m.is (names ∙ c.in-Err.ensures.refused))

pub loop-i-preserved : goal.loop-i-preserved
loop-i-preserved c =
    let l = c.args.layout.now in
    let ds = map view c.args.members.now in
    let d = view c.index-members-i.result in
    let m = seen view c.args.members.now c.loop-i.i c.index-members-i.result c.loop-i-test.true c.index-members-i.is in
    let names = ap (λ ns. first_holding (parameter_faults l ns d)) (sym (ap names_of c.as_slice.ensures.value ∙ c.loop-i.invariant.names)) in
    record {
      checked = c.loop-i.invariant.checked ∙ entry_passed Parameter (faults l ds) ds c.loop-i.i d m.below m.is (names ∙ c.in-Ok.ensures.passes);
      names =
          c.in_ok-keep-in-Ok.ensures.kept
          ∙ ap (λ ns. ns ++ c.in-Ok.entry.name.now ∷ []) c.loop-i.invariant.names
          ∙ ap (λ n. map name_of (take c.loop-i.i ds) ++ n ∷ []) c.in-Ok.ensures.name
          ∙ sym (one_more name_of ds c.loop-i.i d m.below m.is);
      forms =
          c.in_ok-keep-in-Ok.ensures.forms
          ∙ ap (λ fs. fs ++ form_read c.in-Ok.entry ∷ []) c.loop-i.invariant.forms
          ∙ ap (λ f. map form_of (take c.loop-i.i ds) ++ f ∷ []) c.in-Ok.ensures.form
          ∙ sym (one_more form_of ds c.loop-i.i d m.below m.is);
    }
