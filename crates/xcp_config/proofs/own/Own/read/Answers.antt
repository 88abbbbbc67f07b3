use Rattle.std.proofs.Common.{◌≡◌, List, ◌++◌, ◌∙◌, codes, inr, Some}
use Rattle.toml.specs.Data.{Data, get}
use Rattle.toml.specs.View.{view}
use Rattle.xcp_memory.specs.declared.Key.TheVariants as key
use Rattle.xcp_config.specs.declared.config_error.ConfigError.{ConfigError}
use Rattle.xcp_packet.specs.Rows.{first_holding}
use Rattle.xcp_config.specs.Check.{Check}
use Rattle.xcp_memory.specs.Limits.{id_limit, max_cto_limit, max_dto_limit}
use Rattle.xcp_config.specs.TomlValues.{byte_orders, checksums, classes}
use Rattle.xcp_config.specs.TableLayout.{byte_order_of, checksum_in_table, class_of}
use Rattle.xcp_config.specs.TableChecks.{text_checks, name_checks, integer_checks, extras_checks, clock_checks, own_checks}
use Rattle.std.proofs.lemmas.Result.{err_from_is_err_and}
use Rattle.xcp_packet.proofs.RowTestLemmas.{behind_4, holding_left, none_left, holding_1_of_5, holding_2_of_5, holding_3_of_5, holding_4_of_5}
use Rattle.xcp_config.proofs.CheckLemmas.{or_so}
use Rattle.xcp_config.proofs.own.Own.read.Goals as goal

abbrev id : Data → List Check
id t = text_checks key.Id id_limit (get (codes "id") t)

abbrev max_cto : Data → List Check
max_cto t = integer_checks key.MaxCto max_cto_limit (get (codes "max_cto") t)

abbrev max_dto : Data → List Check
max_dto t = integer_checks key.MaxDto max_dto_limit (get (codes "max_dto") t)

abbrev byte_order : Data → List Check
byte_order t = name_checks key.ByteOrder byte_orders (byte_order_of t)

abbrev checksum : Data → List Check
checksum t = name_checks key.Checksum checksums (checksum_in_table t)

abbrev five : Data → List Check
five t = id t ++ max_cto t ++ max_dto t ++ byte_order t ++ checksum t

abbrev six : Data → List Check
six t = five t ++ extras_checks t

abbrev seven : Data → List Check
seven t = six t ++ clock_checks t

abbrev class : Data → List Check
class t = name_checks key.Class classes (class_of t)

-- a fault of the first five keys
of_five : (t : Data) (e : ConfigError) → first_holding (five t) ≡ Some e → first_holding (own_checks t) ≡ Some e
unfolding own_checks
of_five t e h = holding_left (seven t) (class t) e (holding_left (six t) (clock_checks t) e (holding_left (five t) (extras_checks t) e h))

pub returns-in_err-id-clause-refused : goal.returns-in_err-id-clause-refused
returns-in_err-id-clause-refused c =
    let t = view c.args.table.now in
    let r = c.from_residual in
    let p = err_from_is_err_and r.result r.ensures.1 in
    rw (p.1, p.2) (or_so c.in_err-id.ensures.refused (λ k. of_five t _ (holding_1_of_5 (id t) (max_cto t) (max_dto t) (byte_order t) (checksum t) _ k)))

pub returns-in_err-max_cto-clause-refused : goal.returns-in_err-max_cto-clause-refused
returns-in_err-max_cto-clause-refused c =
    let t = view c.args.table.now in
    let r = c.from_residual-in_err-max_cto in
    let p = err_from_is_err_and r.result r.ensures.1 in
    rw (p.1, p.2) (inr (of_five t _ (holding_2_of_5 (id t) (max_cto t) (max_dto t) (byte_order t) (checksum t) _ c.in_ok-id.ensures.passes c.in_err-max_cto.ensures.refused)))

pub returns-in_err-max_dto-clause-refused : goal.returns-in_err-max_dto-clause-refused
returns-in_err-max_dto-clause-refused c =
    let t = view c.args.table.now in
    let r = c.from_residual-in_err-max_dto in
    let p = err_from_is_err_and r.result r.ensures.1 in
    rw (p.1, p.2) (inr (of_five t _ (holding_3_of_5 (id t) (max_cto t) (max_dto t) (byte_order t) (checksum t) _ c.in_ok-id.ensures.passes c.in_ok-max_cto.ensures.passes c.in_err-max_dto.ensures.refused)))

pub returns-in_err-order-clause-refused : goal.returns-in_err-order-clause-refused
returns-in_err-order-clause-refused c =
    let t = view c.args.table.now in
    let r = c.from_residual-in_err-order in
    let p = err_from_is_err_and r.result r.ensures.1 in
    rw (p.1, p.2) (inr (of_five t _ (holding_4_of_5 (id t) (max_cto t) (max_dto t) (byte_order t) (checksum t) _ c.in_ok-id.ensures.passes c.in_ok-max_cto.ensures.passes c.in_ok-max_dto.ensures.passes c.in_err-order.ensures.refused)))

pub returns-in_err-checksum-clause-refused : goal.returns-in_err-checksum-clause-refused
returns-in_err-checksum-clause-refused c =
    let t = view c.args.table.now in
    let r = c.from_residual-in_err-checksum in
    let p = err_from_is_err_and r.result r.ensures.1 in
    rw (p.1, p.2) (inr (of_five t _ (behind_4 (id t) (max_cto t) (max_dto t) (byte_order t) (checksum t) c.in_ok-id.ensures.passes c.in_ok-max_cto.ensures.passes c.in_ok-max_dto.ensures.passes c.in_ok-order.ensures.passes ∙ c.in_err-checksum.ensures.refused)))

pub returns-in_err-extras-clause-refused : goal.returns-in_err-extras-clause-refused
unfolding own_checks
returns-in_err-extras-clause-refused c =
    let t = view c.args.table.now in
    let r = c.from_residual-in_err-extras in
    let p = err_from_is_err_and r.result r.ensures.1 in
    let fine = behind_4 (id t) (max_cto t) (max_dto t) (byte_order t) (checksum t) c.in_ok-id.ensures.passes c.in_ok-max_cto.ensures.passes c.in_ok-max_dto.ensures.passes c.in_ok-order.ensures.passes ∙ c.in_ok-checksum.ensures.passes in
    rw (p.1, p.2) (or_so c.in_err-extras.ensures.refused (λ k. holding_left (seven t) (class t) _ (holding_left (six t) (clock_checks t) _ (none_left (five t) (extras_checks t) fine ∙ k))))

pub returns-in_err-clock-clause-refused : goal.returns-in_err-clock-clause-refused
unfolding own_checks
returns-in_err-clock-clause-refused c =
    let t = view c.args.table.now in
    let r = c.from_residual-in_err-clock in
    let p = err_from_is_err_and r.result r.ensures.1 in
    let fine = behind_4 (id t) (max_cto t) (max_dto t) (byte_order t) (checksum t) c.in_ok-id.ensures.passes c.in_ok-max_cto.ensures.passes c.in_ok-max_dto.ensures.passes c.in_ok-order.ensures.passes ∙ c.in_ok-checksum.ensures.passes in
    rw (p.1, p.2) (inr (holding_left (seven t) (class t) _ (none_left (six t) (clock_checks t) (none_left (five t) (extras_checks t) fine ∙ c.in_ok-extras.ensures.passes) ∙ c.in_err-clock.ensures.refused)))

pub returns-in_err-class-clause-refused : goal.returns-in_err-class-clause-refused
unfolding own_checks
returns-in_err-class-clause-refused c =
    let t = view c.args.table.now in
    let r = c.from_residual-in_err-class in
    let p = err_from_is_err_and r.result r.ensures.1 in
    let fine = behind_4 (id t) (max_cto t) (max_dto t) (byte_order t) (checksum t) c.in_ok-id.ensures.passes c.in_ok-max_cto.ensures.passes c.in_ok-max_dto.ensures.passes c.in_ok-order.ensures.passes ∙ c.in_ok-checksum.ensures.passes in
    let good = none_left (six t) (clock_checks t) (none_left (five t) (extras_checks t) fine ∙ c.in_ok-extras.ensures.passes) ∙ c.in_ok-clock.ensures.passes in
    rw (p.1, p.2) (inr (none_left (seven t) (class t) good ∙ c.in_err-class.ensures.refused))

pub returns-clause-passes : goal.returns-clause-passes
unfolding own_checks
returns-clause-passes c =
    let t = view c.args.table.now in
    let fine = behind_4 (id t) (max_cto t) (max_dto t) (byte_order t) (checksum t) c.in_ok-id.ensures.passes c.in_ok-max_cto.ensures.passes c.in_ok-max_dto.ensures.passes c.in_ok-order.ensures.passes ∙ c.in_ok-checksum.ensures.passes in
    let good = none_left (six t) (clock_checks t) (none_left (five t) (extras_checks t) fine ∙ c.in_ok-extras.ensures.passes) ∙ c.in_ok-clock.ensures.passes in
    none_left (seven t) (class t) good ∙ c.in_ok-class.ensures.passes
