use Rattle.std.proofs.Common.{◌≡◌, ℕ, sym, ap, ◌∙◌, subst, Some}
use Rattle.std.specs.Arc.{arc_value}
use Rattle.atomic_table.specs.Seated.{TableId}
use Rattle.xcp_bank.specs.SeatKnowledge.{Reading}
use Rattle.xcp_bank.specs.private.SeatSteps.{IsReaderSeat, SeatAcquired}
use Rattle.xcp_bank.specs.BankEnds.{ReaderEnd, reader_end}
use Rattle.xcp_bank.specs.EndFields.{reader_in, shown_reader}
use Rattle.xcp_bank.proofs.EndFieldLemmas.{sits_at, sits_here}
use Rattle.xcp_bank.proofs.ReaderEndLemmas.{shown_is, acquired_kept, AcquiredEnd, acquired_end}
use Rattle.xcp_bank.proofs.reader.Reader.acquire.Goals as goal

-- what the reader knows then
made : (c : goal.After-self-2-1) → (y : Reading) × IsReaderSeat c.acquire_at-taken.new.token (arc_value c.self.inside.board) (reader_in c.self.inside.seat).0 y
    × SeatAcquired c.acquire_at-taken.result.0 c.acquire_at-taken.result.1 (arc_value c.self.inside.board).slots (reader_in c.self.inside.seat).0 (reader_in c.self.inside.seat).1 y
made c =
    let r : ℕ = (reader_in c.self.inside.seat).0 in let x : Reading = (reader_in c.self.inside.seat).1 in
    let s = sits_here (arc_value c.self.inside.board) c.self.inside.held c.self.inside.seat c.self.invariant c.in-Some.seat c.in-Some.is in
    let d = c.acquire_at-taken.ensures r x (sits_at c.in-Some.seat r x (sym c.deref.ensures) s) in
    (d.0, sits_at c.acquire_at-taken.new.token r d.0 c.deref.ensures d.1, subst (λ (z : TableId). SeatAcquired c.acquire_at-taken.result.0 c.acquire_at-taken.result.1 z.slots r x d.0) c.deref.ensures d.2)

pub invariant_of-self : goal.invariant_of-self
invariant_of-self c =
    let m = made c in
    acquired_kept c.acquire_at-taken.new.token (arc_value c.self.inside.board) (reader_in c.self.inside.seat).0 c.acquire_at-taken.result.1 (reader_in c.self.inside.seat).1 m.0 c.acquire_at-taken.result.0 m.1 m.2

shows : (c : goal.After-self-2-1) → shown_reader (arc_value c.self.inside.board) (Some c.acquire_at-taken.new.token) ≡ reader_end (arc_value c.self.inside.board) (reader_in c.self.inside.seat).0 (made c).0
shows c = let m = made c in shown_is c.acquire_at-taken.new.token (arc_value c.self.inside.board) (reader_in c.self.inside.seat).0 m.0 m.1

-- and what contracts see of it
said : (c : goal.After-self-2-1) → AcquiredEnd c.acquire_at-taken.result.0 c.args.self.now (shown_reader (arc_value c.self.inside.board) (Some c.acquire_at-taken.new.token))
said c =
    let bank = arc_value c.self.inside.board in
    let r : ℕ = (reader_in c.self.inside.seat).0 in
    let x : Reading = (reader_in c.self.inside.seat).1 in
    let m = made c in
    subst (λ (z : ReaderEnd). AcquiredEnd c.acquire_at-taken.result.0 z (shown_reader bank (Some c.acquire_at-taken.new.token))) c.self.view_is
    (subst (λ (z : ReaderEnd). AcquiredEnd c.acquire_at-taken.result.0 (reader_end bank r x) z) (sym (shows c)) (acquired_end bank r x m.0 c.acquire_at-taken.result.0 c.acquire_at-taken.result.1 m.2))

pub returns-clause-same_reader : goal.returns-clause-same_reader
returns-clause-same_reader c = (ap (λ (z : ReaderEnd). z.bank) c.self.view_is, ap (λ (z : ReaderEnd). z.index) (shows c) ∙ ap (λ (z : ReaderEnd). z.index) c.self.view_is)

pub returns-clause-holds_the_last : goal.returns-clause-holds_the_last
returns-clause-holds_the_last c = (said c).holds_the_last

pub returns-clause-has_seen : goal.returns-clause-has_seen
returns-clause-has_seen c = (said c).has_seen

pub returns-clause-knows : goal.returns-clause-knows
returns-clause-knows c = (said c).knows

pub returns-clause-tells : goal.returns-clause-tells
returns-clause-tells c = (said c).tells

pub returns-clause-looked : goal.returns-clause-looked
returns-clause-looked c = (said c).looked

pub returns-clause-does : goal.returns-clause-does
returns-clause-does c = (said c).does
