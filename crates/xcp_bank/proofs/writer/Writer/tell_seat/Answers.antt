use Rattle.std.proofs.Common.{◌≡◌, ℕ, sym, ap, ◌∙◌}
use Rattle.atomic_table.specs.Seated.{TableId}
use Rattle.std.specs.Arc.{arc_value}
use Rattle.xcp_bank.specs.SeatKnowledge.{Reading, Writing}
use Rattle.xcp_bank.specs.private.SeatSplits.{when_joined, when_parted}
use Rattle.xcp_bank.specs.private.SeatSteps.{IsWriterSeat, IsReaderSeat}
use Rattle.xcp_bank.specs.BankEnds.{WriterEnd, writer_end}
use Rattle.xcp_bank.specs.EndFields.{writer_in}
use Rattle.xcp_bank.proofs.EndFieldLemmas.{sits_at, desks_at, writer_kept_by}
use Rattle.xcp_bank.proofs.WriterEndLemmas.{writer_shown}
use Rattle.xcp_bank.proofs.writer.Writer.tell_seat.Goals as goal

-- the two seats before and after
made : (c : goal.After-tell_at) → (r : ℕ) (x : Reading) → IsReaderSeat c.args.reader c.args.self.now.bank.table r x
    → IsWriterSeat c.tell_at.new.writer (arc_value c.self.inside.board) (writer_in c.self.inside.seat)
    × IsReaderSeat c.tell_at.result c.args.self.now.bank.table r (when_parted (writer_in c.self.inside.seat) r (when_joined (writer_in c.self.inside.seat) r x))
made c = λ r x s.
    let bank = arc_value c.self.inside.board in
    let w : Writing = writer_in c.self.inside.seat in
    let T : c.deref.result.now ≡ bank = c.deref.ensures in
    let B : bank ≡ c.args.self.now.bank.table = ap (λ (z : WriterEnd). z.bank.table) c.self.view_is in
    let e = c.tell_at.ensures w r x (desks_at c.self.inside.seat w (sym T) c.self.invariant.desks) (sits_at c.args.reader r x (sym (T ∙ B)) s) in
    (desks_at c.tell_at.new.writer w T e.0, sits_at c.tell_at.result r (when_parted w r (when_joined w r x)) (T ∙ B) e.1)

pub invariant_of-self : goal.invariant_of-self
invariant_of-self c =
    let f = c.requires in
    writer_kept_by c.tell_at.new.writer (arc_value c.self.inside.board) (writer_in c.self.inside.seat) c.self.inside.current c.self.inside.started c.self.inside.count c.self.inside.marks
    (made c f.0 f.1 f.2).0 c.self.invariant.rests c.self.invariant.counted c.self.invariant.marked

pub returns-clause-same : goal.returns-clause-same
returns-clause-same c =
    let f = c.requires in
    writer_shown c.tell_at.new.writer (arc_value c.self.inside.board) (writer_in c.self.inside.seat) (made c f.0 f.1 f.2).0 ∙ c.self.view_is

pub returns-clause-told : goal.returns-clause-told
returns-clause-told c =
    let w : Writing = writer_in c.self.inside.seat in
    (w, ap (λ (z : TableId). writer_end z w) (sym (ap (λ (z : WriterEnd). z.bank.table) c.self.view_is)) ∙ c.self.view_is, λ r x s. (made c r x s).1)
