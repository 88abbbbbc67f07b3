use Rattle.std.proofs.Common.{◌≡◌, ℕ, ◌-◌, ◌%◌, sym, refl, ap, ◌∙◌, subst, Some, arith}
use Rattle.std.proofs.lemmas.Option.{same_Some}
use Rattle.std.specs.Arc.{arc_value}
use Rattle.xcp_bank.specs.SeatKnowledge.{Reading}
use Rattle.xcp_bank.specs.private.SeatSteps.{IsReaderSeat, HasRead, WordReadAt}
use Rattle.atomic_table.specs.Seated.{TableId}
use Rattle.xcp_bank.specs.BankId.{buffer_words}
use Rattle.xcp_bank.specs.BankEnds.{ReaderEnd, reader_end}
use Rattle.xcp_bank.specs.EndFields.{reader_in, shown_reader}
use Rattle.xcp_bank.proofs.ReaderSeatLemmas.{read_none, read_more}
use Rattle.xcp_bank.proofs.EndFieldLemmas.{sits_at}
use Rattle.xcp_bank.proofs.ReaderEndLemmas.{holding, reads_kept, ReadEnd, read_end, shown_is}
use Rattle.xcp_bank.proofs.reader.Reader.number.Goals as goal

pub read_number-requires-clause-seat : goal.read_number-requires-clause-seat
read_number-requires-clause-seat c =
    let h = holding (arc_value c.self.inside.board) c.deref.result.now c.self.inside.held c.self.inside.seat c.self.invariant c.in-Some.seat c.in-Some-held.buffer c.in-Some.is c.in-Some-held.is c.deref.ensures in
    ((reader_in c.self.inside.seat).0, (reader_in c.self.inside.seat).1, h.0, h.1, h.2)

-- what the reader knows then
made : (c : goal.After-read_number) → (y : Reading) × IsReaderSeat c.read_number.new.token (arc_value c.self.inside.board) (reader_in c.self.inside.seat).0 y
    × (p : ℕ) × ((reader_in c.self.inside.seat).1.pins.held ≡ Some (c.in-Some-held.buffer, p)) × HasRead ((arc_value c.self.inside.board).slots - 1) 1 p (arc_value c.self.inside.board).slots (reader_in c.self.inside.seat).0 (reader_in c.self.inside.seat).1 y
made c =
    let r : ℕ = (reader_in c.self.inside.seat).0 in let x : Reading = (reader_in c.self.inside.seat).1 in
    let h = holding (arc_value c.self.inside.board) c.deref.result.now c.self.inside.held c.self.inside.seat c.self.invariant c.in-Some.seat c.in-Some-held.buffer c.in-Some.is c.in-Some-held.is c.deref.ensures in
    let e = c.read_number.ensures r x h.0 in
    let W : ℕ = (arc_value c.self.inside.board).slots in let k : ℕ = W - 1 in
    let read : WordReadAt c.in-Some-held.buffer k c.read_number.result W r x e.0 = subst (λ (z : TableId). WordReadAt c.in-Some-held.buffer (z.slots - 1) c.read_number.result z.slots r x e.0) c.deref.ensures e.2 in
    (e.0, sits_at c.read_number.new.token r e.0 c.deref.ensures e.1, h.1, h.2, read_more W r x x e.0 k 0 1 h.1 k c.read_number.result (read_none W r x k 0 h.1 refl) (read h.1 h.2) (omega arith) (omega arith))

pub invariant_of-self : goal.invariant_of-self
invariant_of-self c = let m = made c in reads_kept (arc_value c.self.inside.board) c.self.inside.held c.self.inside.seat c.self.invariant c.read_number.new.token ((arc_value c.self.inside.board).slots - 1) 1 m.2 m.0 m.1 m.4

-- and what contracts see of it
said : (c : goal.After-read_number) → ReadEnd (buffer_words c.args.self.now.bank - 1) 1 c.args.self.now (shown_reader (arc_value c.self.inside.board) (Some c.read_number.new.token))
said c =
    let bank = arc_value c.self.inside.board in
    let r : ℕ = (reader_in c.self.inside.seat).0 in let x : Reading = (reader_in c.self.inside.seat).1 in
    let m = made c in
    subst (λ (z : ReaderEnd). ReadEnd (buffer_words z.bank - 1) 1 z (shown_reader bank (Some c.read_number.new.token))) c.self.view_is
    (subst (ReadEnd (bank.slots - 1) 1 (reader_end bank r x)) (sym (shown_is c.read_number.new.token bank r m.0 m.1)) (read_end bank m.1.wide r (bank.slots - 1) 1 c.in-Some-held.buffer m.2 x m.0 m.3 c.self.invariant.follows m.4))

pub returns-clause-number : goal.returns-clause-number
returns-clause-number c =
    let r : ℕ = (reader_in c.self.inside.seat).0 in let x : Reading = (reader_in c.self.inside.seat).1 in
    let h = holding (arc_value c.self.inside.board) c.deref.result.now c.self.inside.held c.self.inside.seat c.self.invariant c.in-Some.seat c.in-Some-held.buffer c.in-Some.is c.in-Some-held.is c.deref.ensures in
    let e = c.read_number.ensures r x h.0 in
    let w = subst (λ (z : TableId). WordReadAt c.in-Some-held.buffer (z.slots - 1) c.read_number.result z.slots r x e.0) c.deref.ensures e.2 h.1 h.2 in
    λ b p holds.
    let same : ◌≡◌ {A = ℕ × ℕ} (c.in-Some-held.buffer, h.1) (b, p) = same_Some (c.in-Some-held.buffer, h.1) (b, p) (sym h.2 ∙ (ap (λ (z : ReaderEnd). z.held) c.self.view_is ∙ holds)) in
    w.value ∙ (w.numbered.number ∙ ap (λ (q : ℕ × ℕ). q.1 % 18446744073709551616) same)

pub returns-clause-same_reader : goal.returns-clause-same_reader
returns-clause-same_reader c = (said c).same_reader

pub returns-clause-same : goal.returns-clause-same
returns-clause-same c = (said c).same

pub returns-clause-does : goal.returns-clause-does
returns-clause-does c = (said c).does

pub returns-clause-run : goal.returns-clause-run
returns-clause-run c = (said c).run

pub returns-clause-follows : goal.returns-clause-follows
returns-clause-follows c = (said c).follows (omega arith)

pub returns-clause-known : goal.returns-clause-known
returns-clause-known c = (said c).known (omega arith)
