use Rattle.std.proofs.Common.{◌≡◌, ◌⊎◌, ℕ, ◌+◌, ◌-◌, ◌*◌, ◌%◌, ◌<◌, ◌≤◌, length, get_or, ap, ◌∙◌, sym, subst, arith}
use Rattle.std.specs.Arc.{arc_value}
use Rattle.atomic_table.specs.Seated.{TableId}
use Rattle.xcp_bank.specs.SeatKnowledge.{Writing}
use Rattle.xcp_bank.specs.private.ImageWords.{words_for}
use Rattle.xcp_bank.proofs.ImageLemmas.{for_image}
use Rattle.xcp_bank.specs.BankId.{image_bytes}
use Rattle.xcp_bank.specs.private.BlockMarks.{IsMarked}
use Rattle.xcp_bank.specs.private.SeatSteps.{IsWriterSeat, Rests, Publishes}
use Rattle.xcp_bank.proofs.BlockMarkLemmas.{marked_for}
use Rattle.xcp_bank.specs.BankEnds.{WriterEnd, writer_end, newest}
use Rattle.xcp_bank.specs.EndFields.{writer_in, shown_writer}
use Rattle.xcp_bank.proofs.EndFieldLemmas.{desks_at, writer_kept_by}
use Rattle.xcp_bank.proofs.WriterEndLemmas.{writer_shown, PublishedEnd, published_end, newest_is, counted_more}
use Rattle.xcp_bank.proofs.writer.Writer.publish_within.Goals as goal

-- the image is whole words
whole : (c : goal.After-self-1) → length c.args.image.now % 8 ≡ 0
whole c = let e = c.requires.size in omega arith

pub publish_at-requires : goal.publish_at-requires
publish_at-requires c =
    let bank = arc_value c.self.inside.board in
    let w : Writing = writer_in c.self.inside.seat in
    let T : c.deref.result.now ≡ bank = c.deref.ensures in
    let long : length c.args.image.now ≡ 8 * (bank.slots - 1) = c.requires.size ∙ ap (λ (z : WriterEnd). image_bytes z.bank) (sym c.self.view_is) in
    let outside = subst (λ (z : WriterEnd). (i : ℕ) → i < length c.args.image.now → (i < c.args.from) ⊎ (c.args.to ≤ i) → get_or c.args.image.now i 0 ≡ get_or (newest z) i 0) (sym c.self.view_is) c.requires.outside in
    let m = marked_for bank.slots c.args.from c.args.to c.self.inside.marks c.mark.new.self w.words (newest (writer_end bank w)) c.args.image.now c.self.invariant.marked c.mark.ensures long outside in
    record {
      seat = (
        w,
        desks_at c.self.inside.seat w (sym T) c.self.invariant.desks,
        c.self.invariant.rests,
        c.self.invariant.counted,
        subst (λ (z : TableId). IsMarked z.slots c.mark.new.self w.words c.args.image.now) (sym T) m,
      );
    }

-- what the writer knows then
made : (c : goal.After-self-1) → (u : Writing) × IsWriterSeat c.publish_at.new.token (arc_value c.self.inside.board) u × Rests c.publish_at.new.current c.publish_at.new.started u
    × Publishes (words_for c.args.image.now c.self.inside.count) (arc_value c.self.inside.board).slots (writer_in c.self.inside.seat) u
    × IsMarked (arc_value c.self.inside.board).slots c.publish_at.new.marks u.words c.args.image.now
made c =
    let bank = arc_value c.self.inside.board in
    let w : Writing = writer_in c.self.inside.seat in
    let T : c.deref.result.now ≡ bank = c.deref.ensures in
    let e = c.publish_at.ensures w (desks_at c.self.inside.seat w (sym T) c.self.invariant.desks) in (
      e.0,
      desks_at c.publish_at.new.token e.0 T e.1,
      e.2,
      subst (λ (z : TableId). Publishes (words_for c.args.image.now c.self.inside.count) z.slots w e.0) T e.3,
      subst (λ (z : TableId). IsMarked z.slots c.publish_at.new.marks e.0.words c.args.image.now) T e.4,
    )

-- and how its publications end
ended : (c : goal.After-self-1) → PublishedEnd c.args.image.now (writer_end (arc_value c.self.inside.board) (writer_in c.self.inside.seat)) (writer_end (arc_value c.self.inside.board) (made c).0)
ended c =
    published_end (arc_value c.self.inside.board) c.args.image.now (words_for c.args.image.now c.self.inside.count) (writer_in c.self.inside.seat) (made c).0
    (for_image c.args.image.now c.self.inside.count (λ i. (c.type_inv.image i).fits) (whole c)) (made c).3

pub invariant_of-self : goal.invariant_of-self
invariant_of-self c =
    let bank = arc_value c.self.inside.board in
    let m = made c in
    writer_kept_by c.publish_at.new.token bank m.0 c.publish_at.new.current c.publish_at.new.started ((c.self.inside.count + 1) % 18446744073709551616) c.publish_at.new.marks m.1 m.2
    (counted_more bank.slots (words_for c.args.image.now c.self.inside.count) (writer_in c.self.inside.seat) m.0 c.self.inside.count m.3 c.self.invariant.counted)
    (subst (IsMarked bank.slots c.publish_at.new.marks m.0.words) (sym (newest_is c.args.image.now (writer_end bank (writer_in c.self.inside.seat)) (writer_end bank m.0) (ended c))) m.4)

-- and what contracts see of it
said : (c : goal.After-self-1) → PublishedEnd c.args.image.now c.args.self.now (shown_writer (arc_value c.self.inside.board) c.publish_at.new.token)
said c =
    let bank = arc_value c.self.inside.board in
    let m = made c in
    subst (λ (z : WriterEnd). PublishedEnd c.args.image.now z (shown_writer bank c.publish_at.new.token)) c.self.view_is
    (subst (PublishedEnd c.args.image.now (writer_end bank (writer_in c.self.inside.seat))) (sym (writer_shown c.publish_at.new.token bank m.0 m.1)) (ended c))

pub returns-clause-appended : goal.returns-clause-appended
returns-clause-appended c = (said c).appended

pub returns-clause-does : goal.returns-clause-does
returns-clause-does c = (said c).does
