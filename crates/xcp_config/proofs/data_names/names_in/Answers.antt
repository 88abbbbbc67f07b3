use Rattle.std.proofs.Common.{◌≡◌, Some, length, map, min, take, ap, sym, ◌∙◌, rules}
use Rattle.toml.specs.Data.{Data, as_array, get}
use Rattle.std.proofs.Common.{codes}
use Rattle.toml.specs.View.{items_of, view}
use Rattle.xcp_config.specs.TableLayout.{file_key}
use Rattle.xcp_config.specs.ConfigText.{name_by}
use Rattle.xcp_config.proofs.CheckLemmas.{if_ok}
use Rattle.xcp_config.proofs.TableArrayLemmas.{first_few, has_members}
use Rattle.xcp_config.proofs.data_names.names_in.Goals as goal

pub returns : goal.returns
returns c =
    let v = get (codes "segment") (view c.args.table.now) in
    let xs = c.deref.result.now in
    let ds = map view xs in
    let e : v ≡ Some (view c.in-Some.value.now) = search rules in
    let f : as_array (view c.in-Some.value.now) ≡ Some (items_of ds) = rw c.deref.ensures.value (search rules) in
    let h = has_members v _ ds e f in
    let count : c.min-count.result ≡ min 16 (length xs) = search rules in
    if_ok c.each_name.result _ _ (λ _ k. k ∙ ap (map (λ (s : Data). name_by (file_key s))) (first_few xs c.min-count.result count ∙ ap (take 16) (sym h.members))) c.each_name.ensures
