-- The two ends keep what is true of their fields.
use Rattle.std.proofs.Common.{◌≡◌, ℕ, ◌<◌, ◌%◌, Bool, false, List, length, sym, refl, ap, ◌∙◌, subst, Option, Some}
use Rattle.std.proofs.lemmas.Option.{same_Some}
use Rattle.atomic_table.specs.Seated.{TableId}
use Rattle.atomic_table.specs.declared.shared.Seat.{Seat as Token}
use Rattle.xcp_bank.specs.SeatKnowledge.{Reading, Writing, Known}
use Rattle.xcp_bank.specs.private.ReaderSteps.{Seat, FollowsHistory}
use Rattle.xcp_bank.specs.private.SeatSteps.{IsReaderSeat, IsWriterSeat, Rests, buffer_held}
use Rattle.xcp_bank.specs.private.BlockMarks.{IsMarked}
use Rattle.xcp_bank.specs.BankEnds.{writer_end, newest}
use Rattle.xcp_bank.specs.EndFields.{first_reader, the_writing, reader_in, writer_in}
use Rattle.xcp_bank.specs.private.KeptEnds.{ReaderKept, WriterKept}

-- a seat that stands for a reader gives this reader, with its number and what it knows
pub reader_is : (token : Token (Unit {0}) Known) (bank : TableId) (r : ℕ) (y : Reading) → IsReaderSeat token bank r y → reader_in (Some token) ≡ (r, y)
reader_is token bank r y s = ap (λ (m : Seat). first_reader m.0.readers) s.me

-- a reader's seat and what buffer it holds, below 8, make lawful fields, if it isn't gone and its history is a run
pub kept_by : (token : Token (Unit {0}) Known) (bank : TableId) (r : ℕ) (y : Reading) (held : Option ℕ) → IsReaderSeat token bank r y → FollowsHistory bank.slots r y → y.pins.gone ≡ false → held ≡ buffer_held y → ((b : ℕ) → held ≡ Some b → b < 8) → ReaderKept bank held (Some token)
kept_by token bank r y held s follows here is low =
    let e = sym (reader_is token bank r y s) in
    record {
      token = token;
      is = refl;
      sits = subst (λ (z : ℕ × Reading). IsReaderSeat token bank z.0 z.1) e s;
      follows = subst (λ (z : ℕ × Reading). FollowsHistory bank.slots z.0 z.1) e follows;
      here = subst (λ (z : ℕ × Reading). z.1.pins.gone ≡ false) e here;
      held_is = subst (λ (z : ℕ × Reading). held ≡ buffer_held z.1) e is;
      low = low;
    }

-- the token that stands in the field
pub sits_here : (bank : TableId) (held : Option ℕ) (seat : Option (Token (Unit {0}) Known)) (k : ReaderKept bank held seat) (token : Token (Unit {0}) Known) → seat ≡ Some token → IsReaderSeat token bank (reader_in seat).0 (reader_in seat).1
sits_here bank held seat k token is = subst (λ (z : Token (Unit {0}) Known). IsReaderSeat z bank (reader_in seat).0 (reader_in seat).1) (same_Some k.token token (sym k.is ∙ is)) k.sits

-- a seat that stands for the writer gives this writer, with what it knows
pub writer_is : (token : Token (Unit {0}) Known) (bank : TableId) (w : Writing) → IsWriterSeat token bank w → writer_in token ≡ w
writer_is token bank w d = ap (λ (m : Seat). the_writing m.0.writer) d.me

-- between publications the writer's seat, current buffer, started counts, count modulo 2^64 and marks make lawful fields
pub writer_kept_by : (token : Token (Unit {0}) Known) (bank : TableId) (w : Writing) (current : ℕ) (started : List ℕ) (count : ℕ) (marks : List Bool) → IsWriterSeat token bank w → Rests current started w
    → count ≡ length w.pins.publications % 18446744073709551616 → IsMarked bank.slots marks w.words (newest (writer_end bank w)) → WriterKept bank current started count marks token
writer_kept_by token bank w current started count marks d r n m =
    let e = sym (writer_is token bank w d) in
    record {
      desks = subst (IsWriterSeat token bank) e d;
      rests = subst (Rests current started) e r;
      counted = subst (λ (z : Writing). count ≡ length z.pins.publications % 18446744073709551616) e n;
      marked = subst (λ (z : Writing). IsMarked bank.slots marks z.words (newest (writer_end bank z))) e m;
    }

-- another name of the same bank

-- a reader's seat of a bank is one of the same bank by another name
pub sits_at : {bank bank' : TableId} (token : Token (Unit {0}) Known) (r : ℕ) (x : Reading) → bank ≡ bank' → IsReaderSeat token bank r x → IsReaderSeat token bank' r x
sits_at token r x e = subst (λ (z : TableId). IsReaderSeat token z r x) e

-- the same for the writer's seat
pub desks_at : {bank bank' : TableId} (token : Token (Unit {0}) Known) (w : Writing) → bank ≡ bank' → IsWriterSeat token bank w → IsWriterSeat token bank' w
desks_at token w e = subst (λ (z : TableId). IsWriterSeat token z w) e
