use Rattle.std.proofs.Common.{◌≡◌, suc, sym, ap, ◌∙◌, subst}
use Rattle.std.specs.Arc.{arc_value}
use Rattle.atomic_table.specs.Seated.{TableId}
use Rattle.xcp_bank.specs.SeatKnowledge.{starting}
use Rattle.xcp_bank.specs.private.SeatSteps.{IsFirstSeat}
use Rattle.xcp_bank.specs.BankEnds.{reader_end}
use Rattle.xcp_bank.proofs.EndFieldLemmas.{sits_at}
use Rattle.xcp_bank.proofs.bank.next_reader.Goals as goal

pub cut-own-requires : goal.cut-own-requires
cut-own-requires c =
    let f = c.requires in
    (f.0, f.1, subst (λ (z : TableId). IsFirstSeat c.args.seat.now z (suc f.0) f.1) (sym c.deref.ensures) f.2)

pub returns : goal.returns
returns c = λ n words first.
    let B : c.deref.result.now ≡ arc_value c.args.board.now = c.deref.ensures in
    let S : arc_value c.in_ok-shared.shared ≡ arc_value c.args.board.now = c.in_ok-shared.ensures in
    let k = c.cut-own.ensures n words (subst (λ (z : TableId). IsFirstSeat c.args.seat.now z (suc n) words) (sym B) first) in
    let made = c.new.ensures n words (sits_at c.cut-own.result n (starting words) (B ∙ sym S) k.1) in
    (subst (λ (z : TableId). IsFirstSeat c.cut-own.new.token z n words) B k.0, made ∙ ap (λ (z : TableId). reader_end z n (starting words)) S)
