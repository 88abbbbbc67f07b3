use Rattle.std.proofs.Common.{◌≡◌, List, ◌∙◌, codes, ap, sym}
use Rattle.std.specs.Option.{unwrap_or}
use Rattle.std.proofs.lemmas.Result.{err_from_is_err_and}
use Rattle.toml.specs.Data.{Data, get, table, no_members}
use Rattle.toml.specs.View.{view}
use Rattle.xcp_memory.specs.declared.Key.TheVariants as key
use Rattle.xcp_packet.specs.Rows.{first_holding}
use Rattle.xcp_config.specs.Check.{Check}
use Rattle.xcp_config.specs.TableLayout.{class_in, signals_table, address_of, length_of}
use Rattle.xcp_config.specs.TableChecks.{table_checks, place_checks, signals_checks}
use Rattle.xcp_packet.proofs.RowTestLemmas.{holding_left, none_left}
use Rattle.xcp_config.proofs.CheckLemmas.{if_ok, if_err}
use Rattle.xcp_config.proofs.signals.read_signals.Goals as goal

abbrev there : Data → List Check
there t = table_checks key.Signals (get (codes "signals") t)

pub returns-in_err-signals-clause-refused : goal.returns-in_err-signals-clause-refused
unfolding signals_checks
returns-in_err-signals-clause-refused c =
    let t = view c.args.table.now in
    let p = err_from_is_err_and c.from_residual.result c.from_residual.ensures.1 in
    rw (p.1, p.2) (holding_left (there t) (place_checks (class_in t) (signals_table t)) _ c.in_err-signals.ensures.refused)

pub returns-clause-passes : goal.returns-clause-passes
unfolding signals_checks
returns-clause-passes c =
    let t = view c.args.table.now in
    let e : signals_table t ≡ view c.in_ok-signals.signals.now = ap (λ v. unwrap_or v (table no_members)) c.in_ok-signals.ensures.value in
    if_ok c.read_place.result _ _ (λ s h. none_left (there t) (place_checks (class_in t) (signals_table t)) c.in_ok-signals.ensures.passes ∙ ap (λ d. first_holding (place_checks (class_in t) d)) e ∙ ap (λ k. first_holding (place_checks k (view c.in_ok-signals.signals.now))) (sym c.requires) ∙ h) c.read_place.ensures.passes

pub returns-clause-address : goal.returns-clause-address
returns-clause-address c =
    let t = view c.args.table.now in
    let e : signals_table t ≡ view c.in_ok-signals.signals.now = ap (λ v. unwrap_or v (table no_members)) c.in_ok-signals.ensures.value in
    if_ok c.read_place.result _ _ (λ s h. h ∙ ap address_of (sym e)) c.read_place.ensures.address

pub returns-clause-length : goal.returns-clause-length
returns-clause-length c =
    let t = view c.args.table.now in
    let e : signals_table t ≡ view c.in_ok-signals.signals.now = ap (λ v. unwrap_or v (table no_members)) c.in_ok-signals.ensures.value in
    if_ok c.read_place.result _ _ (λ s h. h ∙ ap length_of (sym e)) c.read_place.ensures.length

pub returns-clause-refused : goal.returns-clause-refused
unfolding signals_checks
returns-clause-refused c =
    let t = view c.args.table.now in
    let e : signals_table t ≡ view c.in_ok-signals.signals.now = ap (λ v. unwrap_or v (table no_members)) c.in_ok-signals.ensures.value in
    if_err c.read_place.result _ _ (λ f h. none_left (there t) (place_checks (class_in t) (signals_table t)) c.in_ok-signals.ensures.passes ∙ ap (λ d. first_holding (place_checks (class_in t) d)) e ∙ ap (λ k. first_holding (place_checks k (view c.in_ok-signals.signals.now))) (sym c.requires) ∙ h) c.read_place.ensures.refused
