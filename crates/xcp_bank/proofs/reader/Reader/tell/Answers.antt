use Rattle.std.proofs.Common.{◌≡◌, ℕ, sym, ap, ◌∙◌, subst, Some}
use Rattle.std.specs.Arc.{arc_value}
use Rattle.xcp_bank.specs.BankId.{BankId}
use Rattle.xcp_bank.specs.SeatKnowledge.{Reading}
use Rattle.xcp_bank.specs.private.SeatSplits.{when_joined, when_parted}
use Rattle.xcp_bank.specs.private.SeatSteps.{IsReaderSeat}
use Rattle.xcp_bank.specs.BankEnds.{ReaderEnd, WriterEnd, reader_end, writer_end}
use Rattle.xcp_bank.specs.EndFields.{reader_in, shown_reader}
use Rattle.xcp_bank.proofs.EndFieldLemmas.{sits_at, sits_here, kept_by}
use Rattle.xcp_bank.proofs.ReaderEndLemmas.{shown_is, follows_told, ToldEnd, told_end}
use Rattle.xcp_bank.proofs.reader.Reader.tell.Goals as goal

-- what the reader knows then
made : (c : goal.Joined-self) → IsReaderSeat c.tell_seat.result (arc_value c.self.inside.board) (reader_in c.self.inside.seat).0 (when_parted c.tell_seat.ensures.told.0 (reader_in c.self.inside.seat).0 (when_joined c.tell_seat.ensures.told.0 (reader_in c.self.inside.seat).0 (reader_in c.self.inside.seat).1))
made c =
    let bank = arc_value c.self.inside.board in
    let r : ℕ = (reader_in c.self.inside.seat).0 in let x : Reading = (reader_in c.self.inside.seat).1 in
    let R : bank ≡ c.args.writer.now.bank.table = ap (λ (z : ReaderEnd). z.bank.table) c.self.view_is ∙ ap (λ (z : BankId). z.table) c.requires in
    let t = c.tell_seat.ensures.told in
    let s = sits_here bank c.self.inside.held c.self.inside.seat c.self.invariant c.in-Some.seat (sym c.take.ensures.value ∙ c.in-Some.is) in
    sits_at c.tell_seat.result r (when_parted t.0 r (when_joined t.0 r x)) (sym R) (t.2 r x (sits_at c.in-Some.seat r x R s))

pub invariant_of-self : goal.invariant_of-self
invariant_of-self c =
    let k = c.self.invariant in let t = c.tell_seat.ensures.told in
    kept_by c.tell_seat.result (arc_value c.self.inside.board) (reader_in c.self.inside.seat).0 (when_parted t.0 (reader_in c.self.inside.seat).0 (when_joined t.0 (reader_in c.self.inside.seat).0 (reader_in c.self.inside.seat).1)) c.self.inside.held (made c) (follows_told (arc_value c.self.inside.board).slots (reader_in c.self.inside.seat).0 (reader_in c.self.inside.seat).1 t.0 k.follows) k.here k.held_is k.low

-- and what contracts see of it
said : (c : goal.Joined-self) → ToldEnd c.args.writer.now c.args.self.now (shown_reader (arc_value c.self.inside.board) (Some c.tell_seat.result))
said c =
    let bank = arc_value c.self.inside.board in
    let r : ℕ = (reader_in c.self.inside.seat).0 in let x : Reading = (reader_in c.self.inside.seat).1 in
    let t = c.tell_seat.ensures.told in
    let shows = shown_is c.tell_seat.result bank r (when_parted t.0 r (when_joined t.0 r x)) (made c) in
    subst (λ (z : WriterEnd). ToldEnd z c.args.self.now (shown_reader bank (Some c.tell_seat.result))) t.1
    (subst (λ (z : ReaderEnd). ToldEnd (writer_end c.args.writer.now.bank.table t.0) z (shown_reader bank (Some c.tell_seat.result))) c.self.view_is
    (subst (ToldEnd (writer_end c.args.writer.now.bank.table t.0) (reader_end bank r x)) (sym shows) (told_end bank c.args.writer.now.bank.table r x t.0)))

pub returns-clause-same_reader : goal.returns-clause-same_reader
returns-clause-same_reader c = (said c).same_reader

pub returns-clause-seen : goal.returns-clause-seen
returns-clause-seen c = (said c).seen

pub returns-clause-past : goal.returns-clause-past
returns-clause-past c = (said c).past

pub returns-clause-held : goal.returns-clause-held
returns-clause-held c = (said c).held

pub returns-clause-looked : goal.returns-clause-looked
returns-clause-looked c = (said c).looked

pub returns-clause-history : goal.returns-clause-history
returns-clause-history c = (said c).history

pub returns-clause-heard : goal.returns-clause-heard
returns-clause-heard c = (said c).heard

pub returns-clause-does : goal.returns-clause-does
returns-clause-does c = (said c).does
