use Rattle.std.proofs.Common.{length, ap, arith, length-append, take}
use Rattle.xcp_daq.specs.Sample.{odt_bytes}
use Rattle.xcp_daq.proofs.SampleLemmas.{room_for}
use Rattle.xcp_daq.proofs.odts.sampling.fill.Goals as goal

pub append_entry-requires-clause-room : goal.append_entry-requires-clause-room
append_entry-requires-clause-room c =
    let i = c.loop-entry.entry-index in
    omega (arith, ap length c.loop-entry.invariant, length-append c.args.stamp.now (odt_bytes c.args.pages.now (take i c.args.entries.now)), room_for c.args.pages.now c.args.entries.now i c.loop-entry-test.true, c.requires.fits)
