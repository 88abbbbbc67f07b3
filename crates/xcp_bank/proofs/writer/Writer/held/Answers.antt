use Rattle.std.proofs.Common.{◌≡◌, sym, ap, subst}
use Rattle.std.specs.Arc.{arc_value}
use Rattle.atomic_table.specs.Seated.{TableId}
use Rattle.xcp_bank.specs.SeatKnowledge.{Writing}
use Rattle.xcp_bank.specs.private.BlockMarks.{IsMarked}
use Rattle.xcp_bank.specs.private.SeatSteps.{IsWriterSeat, HeldCounted}
use Rattle.xcp_bank.specs.BankEnds.{WriterEnd, writer_end, newest, HeldDoes}
use Rattle.xcp_bank.specs.EndFields.{writer_in, shown_writer}
use Rattle.xcp_bank.proofs.EndFieldLemmas.{desks_at, writer_kept_by}
use Rattle.xcp_bank.proofs.WriterEndLemmas.{writer_shown}
use Rattle.xcp_bank.proofs.ScanCountLemmas.{rests_still, counted_still, held_few, held_end}
use Rattle.xcp_bank.proofs.writer.Writer.held.Goals as goal

-- what the writer knows then
made : (c : goal.After-count_held) → (u : Writing) × IsWriterSeat c.count_held.new.token (arc_value c.self.inside.board) u × HeldCounted 8 c.count_held.result (arc_value c.self.inside.board).slots (writer_in c.self.inside.seat) u
made c =
    let bank = arc_value c.self.inside.board in
    let w : Writing = writer_in c.self.inside.seat in
    let T : c.deref.result.now ≡ bank = c.deref.ensures in
    let e = c.count_held.ensures w (desks_at c.self.inside.seat w (sym T) c.self.invariant.desks) in
    (e.0, desks_at c.count_held.new.token e.0 T e.1, subst (λ (z : TableId). HeldCounted 8 c.count_held.result z.slots w e.0) T e.2)

pub invariant_of-self : goal.invariant_of-self
invariant_of-self c =
    let m = made c in
    let w : Writing = writer_in c.self.inside.seat in
    let r = c.self.invariant.rests in
    writer_kept_by c.count_held.new.token (arc_value c.self.inside.board) m.0 c.self.inside.current c.self.inside.started c.self.inside.count c.self.inside.marks m.1
    (rests_still (arc_value c.self.inside.board) w c.self.inside.current c.self.inside.started r c.count_held.result m.0 m.2)
    (counted_still (arc_value c.self.inside.board) w c.self.inside.current c.self.inside.started r c.count_held.result m.0 m.2 c.self.inside.count c.self.invariant.counted)
    (subst (λ (z : Writing). IsMarked (arc_value c.self.inside.board).slots c.self.inside.marks z.words (newest (writer_end (arc_value c.self.inside.board) z))) (sym m.2.is) c.self.invariant.marked)

-- and what contracts see of it
said : (c : goal.After-count_held) → HeldDoes c.count_held.result c.args.self.now (shown_writer (arc_value c.self.inside.board) c.count_held.new.token)
said c =
    let bank = arc_value c.self.inside.board in
    let w : Writing = writer_in c.self.inside.seat in
    let m = made c in
    subst (λ (z : WriterEnd). HeldDoes c.count_held.result z (shown_writer bank c.count_held.new.token)) c.self.view_is
    (subst (HeldDoes c.count_held.result (writer_end bank w)) (sym (writer_shown c.count_held.new.token bank m.0 m.1))
    (held_end bank w c.self.inside.current c.self.inside.started c.self.invariant.rests c.count_held.result m.0 m.2))

pub returns-clause-most : goal.returns-clause-most
returns-clause-most c = let m = made c in held_few (arc_value c.self.inside.board) (writer_in c.self.inside.seat) c.self.inside.current c.self.inside.started c.self.invariant.rests c.count_held.result m.0 m.2

pub returns-clause-same_bank : goal.returns-clause-same_bank
returns-clause-same_bank c = ap (λ (z : WriterEnd). z.bank) (said c).same

pub returns-clause-same_publications : goal.returns-clause-same_publications
returns-clause-same_publications c = ap (λ (z : WriterEnd). z.publications) (said c).same

pub returns-clause-does : goal.returns-clause-does
returns-clause-does c = said c
