use Rattle.std.proofs.Common.{[], ◌∷◌, ◌∙◌, ap, codes, is_some, not}
use Rattle.std.proofs.lemmas.Result.{err_from_is_err_and}
use Rattle.toml.specs.Data.{get, string}
use Rattle.toml.specs.View.{view}
use Rattle.xcp_memory.specs.declared.Key.TheVariants as key
use Rattle.xcp_packet.specs.Rows.{first_holding, must}
use Rattle.xcp_packet.proofs.RowTestLemmas.{holding_left}
use Rattle.xcp_config.specs.declared.config_error.ConfigError.TheVariants.{Range}
use Rattle.xcp_config.specs.TomlValues.{byte_orders, named, value_text}
use Rattle.xcp_config.specs.TableChecks.{name_checks}
use Rattle.xcp_config.specs.private.TextThere.{text_there}
use Rattle.xcp_config.proofs.ClockLemmas.{given, present}
use Rattle.xcp_config.proofs.own.read_order.Goals as goal

pub returns-in_err-text-clause-refused : goal.returns-in_err-text-clause-refused
unfolding name_checks
returns-in_err-text-clause-refused c =
    let v = get (codes "byte_order") (view c.args.table.now) in
    let r = c.from_residual in
    let p = err_from_is_err_and r.result r.ensures.1 in
    let d = present _ c.get.result _ c.get.ensures (c.is_none.ensures ∙ ap not c.if-is_none.false) in
    rw (p.1, p.2)
    (ap (λ v. first_holding (name_checks key.ByteOrder byte_orders v)) (given (string (codes "intel")) v d.0 d.1)
    ∙ holding_left (text_there key.ByteOrder v) (must (is_some (named byte_orders (value_text v))) (Range key.ByteOrder) ∷ []) _ c.in_err-text.ensures.refused)
