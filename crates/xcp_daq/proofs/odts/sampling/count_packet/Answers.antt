use Rattle.std.proofs.Common.{◌≡◌, ◌≤◌, ◌∙◌, sym, ap, length, get_or, arith, None, true, false}
use Rattle.std.proofs.lemmas.Bool.Decides.{nat_tests}
use Rattle.std.proofs.lemmas.List.{take_all}
use Rattle.std.proofs.lemmas.List.Folds.{length-flat_map-take}
use Rattle.std.specs.Prelude.{nat_lt}
use Rattle.xcp_daq.specs.Sample.{entry_bytes, odt_bytes}
use Rattle.xcp_daq.proofs.SampleLemmas.{longer_odt, no_packet, some_packet}
use Rattle.xcp_daq.proofs.odts.sampling.count_packet.Goals as goal

pub loop-entry-preserved : goal.loop-entry-preserved
loop-entry-preserved c =
    let none : nat_lt 0 (length (entry_bytes c.args.pages.now (get_or c.args.entries.now c.loop-entry.entry-index None))) ≡ false = sym c.gives_bytes.ensures ∙ c.if-gives_bytes.false in
    let few : length (entry_bytes c.args.pages.now (get_or c.args.entries.now c.loop-entry.entry-index None)) ≤ 0 = grind (arith, nat_tests, none) in
    omega (arith, longer_odt c.args.pages.now c.args.entries.now c.loop-entry.entry-index c.loop-entry-test.true, c.loop-entry.invariant, few)

pub returns-then-gives_bytes : goal.returns-then-gives_bytes
returns-then-gives_bytes c =
    let some : nat_lt 0 (length (entry_bytes c.args.pages.now (get_or c.args.entries.now c.loop-entry.entry-index None))) ≡ true = sym c.gives_bytes.ensures ∙ c.if-gives_bytes.true in
    let many : 1 ≤ length (entry_bytes c.args.pages.now (get_or c.args.entries.now c.loop-entry.entry-index None)) = grind (arith, nat_tests, some) in
    sym (some_packet 0 (odt_bytes c.args.pages.now c.args.entries.now) (omega (arith, many, length-flat_map-take (entry_bytes c.args.pages.now) c.args.entries.now c.loop-entry.entry-index None c.loop-entry-test.true)))

pub returns : goal.returns
returns c = sym (no_packet 0 (odt_bytes c.args.pages.now c.args.entries.now) (sym (ap (λ es. length (odt_bytes c.args.pages.now es)) (take_all c.loop-entry.entry-index c.args.entries.now c.loop-entry-test.false)) ∙ c.loop-entry.invariant))
