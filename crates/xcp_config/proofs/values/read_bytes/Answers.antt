use Rattle.std.proofs.Common.{[], ◌∷◌, length, inr}
use Rattle.std.proofs.lemmas.Result.{err_from_is_err_and}
use Rattle.toml.specs.Data.{get}
use Rattle.toml.specs.View.{view}
use Rattle.xcp_memory.specs.Limits.{least_limit}
use Rattle.xcp_packet.proofs.RowTestLemmas.{holding_left}
use Rattle.xcp_config.specs.TomlValues.{bytes_in_hex}
use Rattle.xcp_config.specs.TableChecks.{limit_check, data_checks}
use Rattle.xcp_config.specs.private.TextThere.{text_there}
use Rattle.xcp_config.proofs.values.read_bytes.Goals as goal

pub returns-in_err-text-clause-refused : goal.returns-in_err-text-clause-refused
unfolding data_checks
returns-in_err-text-clause-refused c =
    let v = get c.args.name.now (view c.args.table.now) in
    let r = c.from_residual in
    let p = err_from_is_err_and r.result r.ensures.1 in
    rw (p.1, p.2) (inr (holding_left (text_there c.args.key v) (limit_check (least_limit c.args.key (length (bytes_in_hex v))) ∷ []) _ c.in_err-text.ensures.refused))
