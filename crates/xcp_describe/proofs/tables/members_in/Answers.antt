use Rattle.std.proofs.Common.{◌≡◌, map, Some, rules, sym}
use Rattle.toml.specs.Data.{get, as_array}
use Rattle.toml.specs.View.{items_of, view}
use Rattle.xcp_describe.proofs.ArrayLemmas.{array_there, members_are}
use Rattle.xcp_describe.proofs.tables.members_in.Goals as goal

pub returns-in_ok-as_array-in-Some : goal.returns-in_ok-as_array-in-Some
returns-in_ok-as_array-in-Some c =
    let found : get c.args.key.now (view c.args.document.now) ≡ Some (view c.in-Some.value.now) = search rules in
    let array : as_array (view c.in-Some.value.now) ≡ Some (items_of (map view c.deref.result.now)) = rw c.deref.ensures.value (search rules) in
    (array_there _ _ _ found array, sym (members_are _ _ _ found array))
