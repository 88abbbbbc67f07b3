use Rattle.std.proofs.Common.{ap, sym, ◌∙◌, length, take, get_or, []}
use Rattle.xcp_packet.specs.TimeStamps.{stamp_bytes}
use Rattle.xcp_daq.specs.Pools.{joined}
use Rattle.xcp_daq.proofs.DueListLemmas.{due_packets}
use Rattle.xcp_daq.proofs.SampleLemmas.{stamped_count}
use Rattle.xcp_daq.proofs.daq.sampling.count_list.Goals as goal

pub returns-then-is_due : goal.returns-then-is_due
returns-then-is_due c =
    let ms = c.args.modes.now in
    let os = c.args.odts.now.lists in
    let pages = c.args.pages.now in
    let i = c.args.i in
    c.sample_len.ensures
    ∙ stamped_count pages 0 (length (joined (take i os))) (stamp_bytes pages.layout.order (get_or ms i _).stamp 0) (get_or os i [])
    ∙ ap length (due_packets c.args.odts.now.class ms os i _ c.args.channel 0 pages c.requires.same c.requires.place (sym c.is_due.ensures ∙ c.if-is_due.true))
