use Rattle.std.proofs.Common.{◌≡◌, map, Some, rules, sym, ◌∙◌, ap}
use Rattle.toml.specs.Data.{get, as_array}
use Rattle.toml.specs.View.{items_of, view}
use Rattle.xcp_describe.proofs.ArrayLemmas.{members_are}
use Rattle.xcp_describe.proofs.unread.members_in.Goals as goal

pub returns-in-Some-as_array : goal.returns-in-Some-as_array
returns-in-Some-as_array c =
    let found : get c.args.name.now (view c.args.document.now) ≡ Some (view c.in-Some.value.now) = search rules in
    let array : as_array (view c.in-Some.value.now) ≡ Some (items_of (map view c.in-Some-as_array.members.now.items)) = search rules in
    ap (map view) c.as_slice.ensures.value ∙ sym (members_are _ _ _ found array)
