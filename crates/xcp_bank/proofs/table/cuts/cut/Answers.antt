use Rattle.std.proofs.Common.{ℕ, List, [], arith, ap, ◌∙◌}
use Rattle.xcp_bank.specs.private.ReaderSteps.{Seat}
use Rattle.xcp_bank.specs.private.SeatSplits.{without_first, only_first}
use Rattle.xcp_bank.proofs.SeatSplitLemmas.{cut_allowed}
use Rattle.xcp_bank.proofs.table.cuts.cut.Goals as goal

pub split_seat-requires : goal.split_seat-requires
split_seat-requires c =
    let f = c.requires in
    let s = c.args.store.now in
    let w = f.2.wide.size in
    (f.2.bank_is, omega arith, cut_allowed c.args.seat.now.id f.0 f.1 c.args.seat.now.me.0 (ap (λ (m : Seat). m.0) f.2.me))

abbrev nothing_held : List (ℕ × Unit {0})
nothing_held = []

pub returns : goal.returns
returns c = λ n image f.
    let e = c.split_seat.ensures in (
      record { bank_is = e.0 ∙ f.bank_is; wide = f.wide; me = e.2 ∙ ap (λ (m : Seat). (without_first m.0, m.1)) f.me; size = f.size },
      record { bank_is = e.3 ∙ f.bank_is; wide = f.wide; me = e.4 ∙ ap (λ (m : Seat). (only_first m.0, nothing_held)) f.me },
    )
