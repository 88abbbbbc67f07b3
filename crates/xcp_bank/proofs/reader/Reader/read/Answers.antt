use Rattle.std.proofs.Common.{ℕ, ◌+◌, ◌-◌, ◌*◌, ◌/◌, ◌<◌, ◌≤◌, List, length, take, drop, sym, ap, ◌∙◌, subst, Some, arith}
use Rattle.std.specs.Arc.{arc_value}
use Rattle.xcp_bank.specs.SeatKnowledge.{Reading}
use Rattle.atomic_table.specs.Seated.{TableId}
use Rattle.xcp_bank.specs.private.SeatSteps.{HasRead}
use Rattle.xcp_bank.specs.BankEnds.{ReaderEnd, reader_end, image_held, words_in}
use Rattle.xcp_bank.specs.EndFields.{reader_in, shown_reader}
use Rattle.xcp_bank.proofs.EndFieldLemmas.{sits_at}
use Rattle.xcp_bank.proofs.ReaderEndLemmas.{holding, reads_kept, ReadEnd, read_end, shown_is, image_held_is}
use Rattle.xcp_bank.proofs.reader.Reader.read.Goals as goal

pub read_at-requires-clause-seat : goal.read_at-requires-clause-seat
read_at-requires-clause-seat c =
    let h = holding (arc_value c.self.inside.board) c.deref.result.now c.self.inside.held c.self.inside.seat c.self.invariant c.in-Some.seat c.in-Some-held.buffer c.in-Some.is c.in-Some-held.is c.deref.ensures in
    ((reader_in c.self.inside.seat).0, (reader_in c.self.inside.seat).1, h.0, h.1, h.2)

pub read_at-requires-clause-inside : goal.read_at-requires-clause-inside
read_at-requires-clause-inside c = subst (λ (z : TableId). c.args.at + length c.args.out.now ≤ 8 * (z.slots - 1)) (ap (λ (z : ReaderEnd). z.bank.table) (sym c.self.view_is) ∙ sym c.deref.ensures) c.requires.inside

pub invariant_of-self : goal.invariant_of-self
invariant_of-self c =
    let r : ℕ = (reader_in c.self.inside.seat).0 in let x : Reading = (reader_in c.self.inside.seat).1 in
    let h = holding (arc_value c.self.inside.board) c.deref.result.now c.self.inside.held c.self.inside.seat c.self.invariant c.in-Some.seat c.in-Some-held.buffer c.in-Some.is c.in-Some-held.is c.deref.ensures in
    let e = c.read_at.ensures r x h.0 h.1 h.2 in
    reads_kept (arc_value c.self.inside.board) c.self.inside.held c.self.inside.seat c.self.invariant c.read_at.new.token (c.args.at / 8) (words_in c.args.at (length c.args.out.now)) h.1 e.0 (sits_at c.read_at.new.token r e.0 c.deref.ensures e.1)
    (subst (λ (z : TableId). HasRead (c.args.at / 8) (words_in c.args.at (length c.args.out.now)) h.1 z.slots r x e.0) c.deref.ensures e.2)

pub returns-clause-bytes : goal.returns-clause-bytes
returns-clause-bytes c =
    let r : ℕ = (reader_in c.self.inside.seat).0 in let x : Reading = (reader_in c.self.inside.seat).1 in
    let h = holding (arc_value c.self.inside.board) c.deref.result.now c.self.inside.held c.self.inside.seat c.self.invariant c.in-Some.seat c.in-Some-held.buffer c.in-Some.is c.in-Some-held.is c.deref.ensures in
    let e = c.read_at.ensures r x h.0 h.1 h.2 in
    e.3 ∙ ap (λ (l : List ℕ). take (length c.args.out.now) (drop c.args.at l)) (sym (image_held_is (arc_value c.self.inside.board) r x c.in-Some-held.buffer h.1 h.2) ∙ ap image_held c.self.view_is)

-- what contracts see of the reader then
said : (c : goal.After-slice_known-2-1) → ReadEnd (c.args.at / 8) (words_in c.args.at (length c.args.out.now)) c.args.self.now (shown_reader (arc_value c.self.inside.board) (Some c.read_at.new.token))
said c =
    let bank = arc_value c.self.inside.board in
    let r : ℕ = (reader_in c.self.inside.seat).0 in let x : Reading = (reader_in c.self.inside.seat).1 in
    let h = holding (arc_value c.self.inside.board) c.deref.result.now c.self.inside.held c.self.inside.seat c.self.invariant c.in-Some.seat c.in-Some-held.buffer c.in-Some.is c.in-Some-held.is c.deref.ensures in
    let e = c.read_at.ensures r x h.0 h.1 h.2 in
    let k : ℕ = c.args.at / 8 in let n : ℕ = words_in c.args.at (length c.args.out.now) in
    subst (λ (z : ReaderEnd). ReadEnd k n z (shown_reader bank (Some c.read_at.new.token))) c.self.view_is
    (subst (ReadEnd k n (reader_end bank r x)) (sym (shown_is c.read_at.new.token bank r e.0 (sits_at c.read_at.new.token r e.0 c.deref.ensures e.1))) (read_end bank (sits_at c.read_at.new.token r e.0 c.deref.ensures e.1).wide r k n c.in-Some-held.buffer h.1 x e.0 h.2 c.self.invariant.follows (subst (λ (z : TableId). HasRead k n h.1 z.slots r x e.0) c.deref.ensures e.2)))

some_words : (at n : ℕ) → 0 < n → 0 < words_in at n
some_words at n some = omega arith

pub returns-clause-same_reader : goal.returns-clause-same_reader
returns-clause-same_reader c = (said c).same_reader

pub returns-clause-same : goal.returns-clause-same
returns-clause-same c = (said c).same

pub returns-clause-does : goal.returns-clause-does
returns-clause-does c = (said c).does

pub returns-clause-run : goal.returns-clause-run
returns-clause-run c = (said c).run

pub returns-clause-follows : goal.returns-clause-follows
returns-clause-follows c = λ some. (said c).follows (some_words c.args.at (length c.args.out.now) some)
