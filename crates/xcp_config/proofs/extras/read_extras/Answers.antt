use Rattle.std.proofs.Common.{List, ◌∙◌, codes, inr}
use Rattle.std.proofs.lemmas.Result.{err_from_is_err_and}
use Rattle.toml.specs.Data.{Data, get}
use Rattle.toml.specs.View.{view}
use Rattle.xcp_memory.specs.declared.Key.TheVariants as key
use Rattle.xcp_memory.specs.Limits.{text_limit}
use Rattle.xcp_config.specs.Check.{Check}
use Rattle.xcp_config.specs.TomlValues.{overloads}
use Rattle.xcp_config.specs.TableChecks.{text_checks, boolean_checks, name_checks, if_there, extras_checks}
use Rattle.xcp_packet.proofs.RowTestLemmas.{behind_2, holding_1_of_3, holding_2_of_3}
use Rattle.xcp_config.proofs.CheckLemmas.{or_so}
use Rattle.xcp_config.proofs.extras.read_extras.Goals as goal

abbrev name : Data → List Check
name t = if_there (text_checks key.A2l (text_limit 64 key.A2l)) (get (codes "a2l") t)

abbrev upload : Data → List Check
upload t = if_there (boolean_checks key.UploadA2l) (get (codes "upload_a2l") t)

abbrev overload : Data → List Check
overload t = if_there (name_checks key.Overload overloads) (get (codes "overload") t)

pub returns-in_err-a2l-clause-refused : goal.returns-in_err-a2l-clause-refused
unfolding extras_checks
returns-in_err-a2l-clause-refused c =
    let t = view c.args.table.now in
    let r = c.from_residual in
    let p = err_from_is_err_and r.result r.ensures.1 in
    rw (p.1, p.2) (or_so c.in_err-a2l.ensures.refused (λ k. holding_1_of_3 (name t) (upload t) (overload t) _ k))

pub returns-in_err-uploads_a2l-clause-refused : goal.returns-in_err-uploads_a2l-clause-refused
unfolding extras_checks
returns-in_err-uploads_a2l-clause-refused c =
    let t = view c.args.table.now in
    let r = c.from_residual-in_err-uploads_a2l in
    let p = err_from_is_err_and r.result r.ensures.1 in
    rw (p.1, p.2) (inr (holding_2_of_3 (name t) (upload t) (overload t) _ c.in_ok-a2l.ensures.passes c.in_err-uploads_a2l.ensures.refused))

pub returns-in_err-tells_overload-clause-refused : goal.returns-in_err-tells_overload-clause-refused
unfolding extras_checks
returns-in_err-tells_overload-clause-refused c =
    let t = view c.args.table.now in
    let r = c.from_residual-in_err-tells_overload in
    let p = err_from_is_err_and r.result r.ensures.1 in
    rw (p.1, p.2) (inr (behind_2 (name t) (upload t) (overload t) c.in_ok-a2l.ensures.passes c.in_ok-uploads_a2l.ensures.passes ∙ c.in_err-tells_overload.ensures.refused))

pub returns-clause-passes : goal.returns-clause-passes
unfolding extras_checks
returns-clause-passes c =
    let t = view c.args.table.now in
    behind_2 (name t) (upload t) (overload t) c.in_ok-a2l.ensures.passes c.in_ok-uploads_a2l.ensures.passes ∙ c.in_ok-tells_overload.ensures.passes
