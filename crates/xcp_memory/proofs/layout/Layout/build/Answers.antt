use Rattle.std.proofs.Common.{◌∙◌, ap, sym, subst, rules, w64}
use Rattle.std.proofs.lemmas.Int.{to_z-of_z}
use mir.Val.{SFits}
use Rattle.std.proofs.lemmas.Result.{err_from_is_err_and}
use Rattle.xcp_memory.specs.Layout.{IsLayout}
use Rattle.xcp_packet.specs.Rows.{first_holding}
use Rattle.xcp_memory.specs.Limits.{apart_limits}
use Rattle.xcp_memory.proofs.LawfulLayoutLemmas.{lawful}
use Rattle.xcp_memory.proofs.LimitGroupLemmas.{fault_of_own, fault_of_segments, fault_of_signals, fault_of_events, fault_of_areas, areas_built, layout_built, a2l_kept}
use Rattle.xcp_memory.proofs.layout.Layout.build.Goals as goal

pub returns-in_err-own-clause-refused : goal.returns-in_err-own-clause-refused
returns-in_err-own-clause-refused c =
    let r = c.from_residual in
    let p = err_from_is_err_and r.result r.ensures.1 in
    rw (p.1, p.2) (fault_of_own c.args.parts _ c.in_err-own.ensures.refused)

pub returns-in_err-segments-clause-refused : goal.returns-in_err-segments-clause-refused
returns-in_err-segments-clause-refused c =
    let r = c.from_residual-in_err-segments in
    let p = err_from_is_err_and r.result r.ensures.1 in
    rw (p.1, p.2) (fault_of_segments c.args.parts _ c.in_ok-own.ensures.ok.0 c.in_err-segments.ensures.refused)

pub returns-in_err-signals-clause-refused : goal.returns-in_err-signals-clause-refused
returns-in_err-signals-clause-refused c =
    let r = c.from_residual-in_err-signals in
    let p = err_from_is_err_and r.result r.ensures.1 in
    let f : SFits w64 c.args.parts.signals_address = search rules in
    let g : SFits w64 c.args.parts.signals_length = search rules in
    let broken = simp to_z-of_z at c.in_err-signals.ensures.refused in
    rw (p.1, p.2) (fault_of_signals c.args.parts _ c.in_ok-own.ensures.ok.0 c.in_ok-segments.ensures.ok.0 broken)

pub returns-in_err-events-clause-refused : goal.returns-in_err-events-clause-refused
returns-in_err-events-clause-refused c =
    let r = c.from_residual-in_err-events in
    let p = err_from_is_err_and r.result r.ensures.1 in
    let f : SFits w64 c.args.parts.signals_address = search rules in
    let g : SFits w64 c.args.parts.signals_length = search rules in
    let signals = simp to_z-of_z at c.in_ok-signals.ensures.ok.0 in
    rw (p.1, p.2) (fault_of_events c.args.parts _ c.in_ok-own.ensures.ok.0 c.in_ok-segments.ensures.ok.0 signals c.in_err-events.ensures.refused)

pub returns-in_err-check_apart-clause-refused : goal.returns-in_err-check_apart-clause-refused
returns-in_err-check_apart-clause-refused c =
    let r = c.from_residual-in_err-check_apart in
    let p = err_from_is_err_and r.result r.ensures.1 in
    let f : SFits w64 c.args.parts.signals_address = search rules in
    let g : SFits w64 c.args.parts.signals_length = search rules in
    let limits = simp to_z-of_z at c.in_ok-signals.ensures.ok.0 in
    let signals = simp to_z-of_z at c.in_ok-signals.ensures.ok.1 in
    let segments = c.deref.ensures.0 ∙ c.in_ok-segments.ensures.ok.1 in
    let named = c.deref-2.ensures.0 ∙ c.areas_of.ensures ∙ areas_built c.args.parts _ _ segments signals in
    let all = fault_of_areas c.args.parts c.in_ok-own.ensures.ok.0 c.in_ok-segments.ensures.ok.0 limits c.in_ok-events.ensures.ok.0 in
    rw (p.1, p.2) (all ∙ ap (λ ps. first_holding (apart_limits ps)) (sym named) ∙ c.in_err-check_apart.ensures.refused)

pub returns-clause-ok : goal.returns-clause-ok
returns-clause-ok c =
    let f : SFits w64 c.args.parts.signals_address = search rules in
    let g : SFits w64 c.args.parts.signals_length = search rules in
    let limits = simp to_z-of_z at c.in_ok-signals.ensures.ok.0 in
    let signals = simp to_z-of_z at c.in_ok-signals.ensures.ok.1 in
    let segments = c.deref.ensures.0 ∙ c.in_ok-segments.ensures.ok.1 in
    let named = c.deref-2.ensures.0 ∙ c.areas_of.ensures ∙ areas_built c.args.parts _ _ segments signals in
    let all = fault_of_areas c.args.parts c.in_ok-own.ensures.ok.0 c.in_ok-segments.ensures.ok.0 limits c.in_ok-events.ensures.ok.0 in
    let own = c.in_ok-own.ensures.ok in
    let built = layout_built c.args.parts _ _ _ _ _ _ _ _ own.1 own.2 own.3 own.4 c.in_ok-segments.ensures.ok.1 signals c.in_ok-events.ensures.ok.1 c.begin.ensures in
    (all ∙ ap (λ ps. first_holding (apart_limits ps)) (sym named) ∙ c.in_ok-check_apart.ensures.ok, built)

pub invariant_of-result : goal.invariant_of-result
invariant_of-result c =
    let f : SFits w64 c.args.parts.signals_address = search rules in
    let g : SFits w64 c.args.parts.signals_length = search rules in
    let limits = simp to_z-of_z at c.in_ok-signals.ensures.ok.0 in
    let signals = simp to_z-of_z at c.in_ok-signals.ensures.ok.1 in
    let segments = c.deref.ensures.0 ∙ c.in_ok-segments.ensures.ok.1 in
    let named = c.deref-2.ensures.0 ∙ c.areas_of.ensures ∙ areas_built c.args.parts _ _ segments signals in
    let all = fault_of_areas c.args.parts c.in_ok-own.ensures.ok.0 c.in_ok-segments.ensures.ok.0 limits c.in_ok-events.ensures.ok.0 in
    let none = all ∙ ap (λ ps. first_holding (apart_limits ps)) (sym named) ∙ c.in_ok-check_apart.ensures.ok in
    let own = c.in_ok-own.ensures.ok in
    let built = layout_built c.args.parts _ _ _ _ _ _ _ _ own.1 own.2 own.3 own.4 c.in_ok-segments.ensures.ok.1 signals c.in_ok-events.ensures.ok.1 c.begin.ensures in
    subst IsLayout (sym built) (lawful c.args.parts none)

pub begin-requires : goal.begin-requires
begin-requires c = a2l_kept c.args.parts c.in_ok-own.ensures.ok.0
