use Rattle.std.proofs.Common.{◌≡◌, None, Some, get_or, ◌∙◌, inr, rules}
use Rattle.std.proofs.lemmas.Result.{err_from_is_err_and}
use Rattle.toml.specs.View.{view}
use Rattle.xcp_config.specs.TableLayout.{Filed, file_key}
use Rattle.xcp_config.specs.TableChecks.{name_of_file_checks, content_checks}
use Rattle.xcp_packet.proofs.RowTestLemmas.{holding_left, none_left}
use Rattle.xcp_config.proofs.CheckLemmas.{if_ok, if_err, or_so}
use Rattle.xcp_config.proofs.DataFileLemmas.{by_file, by_text}
use Rattle.xcp_config.proofs.data_file.read_data.Goals as goal

pub returns-in_err-check_name-in-Some-clause-refused : goal.returns-in_err-check_name-in-Some-clause-refused
returns-in_err-check_name-in-Some-clause-refused c =
    let i = c.args.number in
    let d : Filed = (get_or c.args.files.now i None, view c.args.table.now) in
    let name = view c.in-Some.name.now in
    let e : file_key d.1 ≡ Some name = search rules in
    let p = err_from_is_err_and c.from_residual.result c.from_residual.ensures.1 in
    rw (p.1, p.2) (inr (by_file i d name _ e (holding_left (name_of_file_checks i name d.1) (content_checks i d.0) _ c.in_err-check_name-in-Some.ensures.refused)))

pub returns-in-None-clause-passes : goal.returns-in-None-clause-passes
returns-in-None-clause-passes c =
    let i = c.args.number in
    let d : Filed = (get_or c.args.files.now i None, view c.args.table.now) in
    let e : file_key d.1 ≡ None = search rules in
    if_ok c.read_bytes.result _ _ (λ _ h. by_text i d None e h) c.read_bytes.ensures.passes

pub returns-in-None-clause-refused : goal.returns-in-None-clause-refused
returns-in-None-clause-refused c =
    let i = c.args.number in
    let d : Filed = (get_or c.args.files.now i None, view c.args.table.now) in
    let e : file_key d.1 ≡ None = search rules in
    if_err c.read_bytes.result _ _ (λ f h. or_so h (λ k. by_text i d (Some f) e k)) c.read_bytes.ensures.refused

pub returns-in_ok-check_name-in-Some-clause-passes : goal.returns-in_ok-check_name-in-Some-clause-passes
returns-in_ok-check_name-in-Some-clause-passes c =
    let i = c.args.number in
    let d : Filed = (get_or c.args.files.now i None, view c.args.table.now) in
    let name = view c.in-Some.name.now in
    let e : file_key d.1 ≡ Some name = search rules in
    let fine = none_left (name_of_file_checks i name d.1) (content_checks i d.0) c.in_ok-check_name-in-Some.ensures.passes in
    if_ok c.read_content.result _ _ (λ _ h. by_file i d name None e (fine ∙ h)) c.read_content.ensures.passes

pub returns-in_ok-check_name-in-Some-clause-refused : goal.returns-in_ok-check_name-in-Some-clause-refused
returns-in_ok-check_name-in-Some-clause-refused c =
    let i = c.args.number in
    let d : Filed = (get_or c.args.files.now i None, view c.args.table.now) in
    let name = view c.in-Some.name.now in
    let e : file_key d.1 ≡ Some name = search rules in
    let fine = none_left (name_of_file_checks i name d.1) (content_checks i d.0) c.in_ok-check_name-in-Some.ensures.passes in
    if_err c.read_content.result _ _ (λ f h. or_so h (λ k. by_file i d name (Some f) e (fine ∙ k))) c.read_content.ensures.refused
