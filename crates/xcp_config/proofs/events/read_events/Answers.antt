use Rattle.std.proofs.Common.{◌≡◌, List, ◌∙◌, codes, ap, sym, map, inr}
use Rattle.std.specs.List.{flat_map, enumerate_from}
use Rattle.std.proofs.lemmas.Result.{err_from_is_err_and}
use Rattle.toml.specs.Data.{Data, get}
use Rattle.toml.specs.View.{view}
use Rattle.xcp_memory.specs.declared.Class.{Class}
use Rattle.xcp_memory.specs.declared.ClassLimits.{ClassLimits}
use Rattle.xcp_memory.specs.declared.Key.TheVariants as key
use Rattle.xcp_memory.specs.ClassLimits.{limits_of}
use Rattle.xcp_packet.specs.Rows.{first_holding}
use Rattle.xcp_config.specs.Check.{Check}
use Rattle.xcp_config.specs.TableLayout.{class_in, event_tables}
use Rattle.xcp_memory.specs.Limits.{count_limits, event_counts}
use Rattle.xcp_config.specs.TableChecks.{array_checks, event_checks, events_checks}
use Rattle.xcp_config.specs.private.PartsRead.{event_written}
use Rattle.xcp_packet.proofs.RowTestLemmas.{holding_left, none_left}
use Rattle.xcp_config.proofs.CheckLemmas.{if_ok, if_err, or_so}
use Rattle.xcp_config.proofs.events.read_events.Goals as goal

-- the checks of the array, by its limits
abbrev counted : ClassLimits → Data → List Check
counted limits t = array_checks key.Event (count_limits limits.events key.Event) (get (codes "event") t)

abbrev there : Data → List Check
there t = array_checks key.Event (event_counts (class_in t)) (get (codes "event") t)

abbrev each : List Data → List Check
each ds = flat_map event_checks (enumerate_from 0 ds)

-- the limits are those of the table's class
same_limits : (t : Data) (class : Class) (limits : ClassLimits) → limits ≡ limits_of class → class ≡ class_in t → first_holding (there t) ≡ first_holding (counted limits t)
same_limits t class limits l c = ap (λ (k : ClassLimits). first_holding (counted k t)) (ap limits_of (sym c) ∙ sym l)

pub returns-in_err-members-clause-refused : goal.returns-in_err-members-clause-refused
unfolding events_checks
returns-in_err-members-clause-refused c =
    let t = view c.args.table.now in
    let p = err_from_is_err_and c.from_residual.result c.from_residual.ensures.1 in
    let limits = same_limits t c.args.class c.limits.result c.limits.ensures.value c.requires in
    rw (p.1, p.2) (inr (holding_left (there t) (each (event_tables t)) _ (limits ∙ c.in_err-members.ensures.refused)))

pub returns-clause-passes : goal.returns-clause-passes
unfolding events_checks
returns-clause-passes c =
    let t = view c.args.table.now in
    let e : map view c.in_ok-members.members.now ≡ event_tables t = c.in_ok-members.ensures.value in
    if_ok c.read_each.result _ _ (λ _ h. none_left (there t) (each (event_tables t)) (same_limits t c.args.class c.limits.result c.limits.ensures.value c.requires ∙ c.in_ok-members.ensures.passes) ∙ ap (λ ds. first_holding (each ds)) (sym e) ∙ h) c.read_each.ensures.passes

pub returns-clause-read : goal.returns-clause-read
returns-clause-read c =
    let t = view c.args.table.now in
    let e : map view c.in_ok-members.members.now ≡ event_tables t = c.in_ok-members.ensures.value in
    if_ok c.read_each.result _ _ (λ _ h. h ∙ ap (map event_written) e) c.read_each.ensures.read

pub returns-clause-refused : goal.returns-clause-refused
unfolding events_checks
returns-clause-refused c =
    let t = view c.args.table.now in
    let e : map view c.in_ok-members.members.now ≡ event_tables t = c.in_ok-members.ensures.value in
    if_err c.read_each.result _ _ (λ f h. or_so h (λ k. none_left (there t) (each (event_tables t)) (same_limits t c.args.class c.limits.result c.limits.ensures.value c.requires ∙ c.in_ok-members.ensures.passes) ∙ ap (λ ds. first_holding (each ds)) (sym e) ∙ k)) c.read_each.ensures.refused
