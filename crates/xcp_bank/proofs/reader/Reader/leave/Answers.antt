use Rattle.std.proofs.Common.{ℕ, true, sym, ◌∙◌, subst, Option}
use Rattle.std.specs.Arc.{arc_value}
use Rattle.atomic_table.specs.Seated.{TableId}
use Rattle.xcp_bank.specs.SeatKnowledge.{Reading}
use Rattle.xcp_bank.specs.private.ReaderSteps.{GivesUp}
use Rattle.xcp_bank.specs.BankEnds.{ReaderEnd, reader_end, LeavesBy, GivesBack}
use Rattle.xcp_bank.specs.EndFields.{reader_in}
use Rattle.xcp_bank.proofs.EndFieldLemmas.{sits_at}
use Rattle.xcp_bank.proofs.ReaderEndLemmas.{holding, shown_is, left_end}
use Rattle.xcp_bank.proofs.reader.Reader.leave.Goals as goal

pub unpin_for_good-requires-clause-seat : goal.unpin_for_good-requires-clause-seat
unpin_for_good-requires-clause-seat c =
    let h = holding (arc_value c.self.inside.board) c.deref.result.now c.self.inside.held c.self.inside.seat c.self.invariant c.in-Some.seat c.in-Some-held.buffer c.in-Some.is c.in-Some-held.is c.deref.ensures in
    ((reader_in c.self.inside.seat).0, (reader_in c.self.inside.seat).1, h.0, h.1, h.2)

pub returns : goal.returns
returns c =
    let bank = arc_value c.self.inside.board in
    let r : ℕ = (reader_in c.self.inside.seat).0 in let x : Reading = (reader_in c.self.inside.seat).1 in
    let h = holding (arc_value c.self.inside.board) c.deref.result.now c.self.inside.held c.self.inside.seat c.self.invariant c.in-Some.seat c.in-Some-held.buffer c.in-Some.is c.in-Some-held.is c.deref.ensures in
    let e = c.unpin_for_good.ensures r x h.0 in
    let shows = c.new-2.ensures ∙ shown_is c.unpin_for_good.new.token bank r e.0 (sits_at c.unpin_for_good.new.token r e.0 c.deref.ensures e.1) in
    subst (λ (z : ReaderEnd). LeavesBy z.held z c.new-2.result) c.self.view_is
    (subst (λ (o : Option (ℕ × ℕ)). LeavesBy o (reader_end bank r x) c.new-2.result) (sym h.2)
    (subst (GivesBack (reader_end bank r x)) (sym shows) (left_end bank r x e.0 (subst (λ (z : TableId). GivesUp z.slots true r x e.0) c.deref.ensures e.2))))
