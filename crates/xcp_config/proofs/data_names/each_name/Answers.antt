use Rattle.std.proofs.Common.{map, option_map, string_bytes, ◌∙◌, ap}
use Rattle.toml.specs.Data.{Data}
use Rattle.toml.specs.View.{view}
use Rattle.xcp_config.specs.TableLayout.{file_key}
use Rattle.xcp_config.specs.ConfigText.{name_by}
use Rattle.xcp_config.proofs.ArrayMemberLemmas.{seen, one_more_read}
use Rattle.xcp_config.proofs.data_names.each_name.Goals as goal

pub loop-table-preserved : goal.loop-table-preserved
loop-table-preserved c =
    let ds = map view c.args.tables.now in
    let i = c.loop-table.table-index in
    let x = c.table-item.result in
    let m = seen view c.args.tables.now i x c.loop-table-test.true c.table-item.is in
    ap (map (option_map string_bytes)) c.in_ok-push.ensures.items
    ∙ one_more_read (option_map string_bytes) (λ (s : Data). name_by (file_key s)) c.loop-table.names.items ds i c.in_ok-name_of.field-0 (view x) m.below m.is c.loop-table.invariant c.in_ok-name_of.ensures
