use Rattle.std.proofs.Common.{◌≡◌, ℕ, ◌≤◌, ◌<◌, ◌-◌, length, arith, slice_index_or, sym, ap, ◌∙◌, subst, Some, refl}
use Rattle.xcp_bank.specs.BankEnds.{ReaderEnd, image_at}
use Rattle.xcp_locked.specs.Journal.{exchanges}
use Rattle.xcp_locked.specs.LockedSlave.{LockedValue}
use Rattle.xcp_locked.specs.Publications.{Published, publication}
use Rattle.xcp_locked.proofs.PublicationLemmas.{exchanges_length}
use Rattle.xcp_locked.proofs.SettledReaderLemmas.{some_of, member_at, places_length, same_number, later_image, one_number}
use Rattle.xcp_locked.proofs.locked.Locked.settle_reader.Goals as goal

pub index-from-requires : goal.index-from-requires
index-from-requires g c =
    let k = c.self.invariant.4 in
    let s = some_of c.tell.new.self.held (c.holds.ensures.0 c.if-not-holds.false) in
    let n = exchanges_length c.self.inside.journal.entries in
    let few = c.self.invariant.2 in
    let limit : length (exchanges c.self.inside.journal.entries) ≤ 65536 = omega (arith, few, n) in
    let before = c.self.invariant.6 in
    let chapter = c.self.invariant.7 in
    let first = c.self.invariant.8 in
    let early : c.self.inside.publisher.first ≤ 281474976645120 = omega (arith, before, chapter, first) in
    let at = same_number s.1 c.number-number.result c.self.inside.publisher.first (length (exchanges c.self.inside.journal.entries)) c.number-number.new.self.seen k.front k.list (c.number-number.ensures.known s.0 s.1 s.2) (c.number-number.ensures.same.1 ∙ (c.tell.ensures.seen ∙ k.images)) k.fronts (c.number-number.ensures.number s.0 s.1 s.2) k.few limit early in
    let places : length c.self.inside.publisher.places.items ≡ length k.list = ap length k.places ∙ places_length k.list in
    let low = at.1 in
    let late = c.if-number-self.false in
    omega (arith, low, places, late)

pub returns-clause-settled : goal.returns-clause-settled
returns-clause-settled g c =
    let k = c.self.invariant.4 in
    let s = some_of c.tell.new.self.held (c.holds.ensures.0 c.if-not-holds.false) in
    let n = exchanges_length c.self.inside.journal.entries in
    let few = c.self.invariant.2 in
    let limit : length (exchanges c.self.inside.journal.entries) ≤ 65536 = omega (arith, few, n) in
    let before = c.self.invariant.6 in
    let chapter = c.self.invariant.7 in
    let first = c.self.invariant.8 in
    let early : c.self.inside.publisher.first ≤ 281474976645120 = omega (arith, before, chapter, first) in
    let seen = c.number-number.ensures.same.1 ∙ (c.tell.ensures.seen ∙ k.images) in
    let at = same_number s.1 c.number-number.result c.self.inside.publisher.first (length (exchanges c.self.inside.journal.entries)) c.number-number.new.self.seen k.front k.list (c.number-number.ensures.known s.0 s.1 s.2) seen k.fronts (c.number-number.ensures.number s.0 s.1 s.2) k.few limit early in
    let low = at.1 in
    let late = c.if-number-self.false in
    let index : ℕ = c.number-number.result - c.self.inside.publisher.first in
    let inside : index < length k.list = omega (arith, low, late) in
    let held = c.number-number.ensures.same.0 ∙ (s.2 ∙ ap (λ (n : ℕ). Some (s.0, n)) (sym at.0)) in
    let from = ap (λ l. slice_index_or l index c.index-from.result.now) (sym k.places) ∙ sym c.index-from.ensures in
    let image = sym (later_image k.front k.list c.self.inside.publisher.first c.number-number.result k.fronts late) in
    let firsts = ap (λ (d : LockedValue). d.first) c.self.view_is in
    record {
      list = k.list;
      published = subst (λ (d : LockedValue). Published d.base (exchanges d.journal) k.list) c.self.view_is k.published;
      index = index;
      number_is = omega (arith, late, firsts);
      number = (s.0, held);
      member = member_at k.list index c.index-from.result.now inside ∙ ((λ i. Some (publication (from i) (image i))) ∙ (λ i. Some (publication c.index-from.result.now (image_at (sym held i) (sym seen i)))));
    }

pub returns-then-number-self-clause-earlier : goal.returns-then-number-self-clause-earlier
returns-then-number-self-clause-earlier g c =
    let k = c.self.invariant.4 in
    let s = some_of c.tell.new.self.held (c.holds.ensures.0 c.if-not-holds.false) in
    let n = exchanges_length c.self.inside.journal.entries in
    let few = c.self.invariant.2 in
    let limit : length (exchanges c.self.inside.journal.entries) ≤ 65536 = omega (arith, few, n) in
    let before = c.self.invariant.6 in
    let chapter = c.self.invariant.7 in
    let first = c.self.invariant.8 in
    let early : c.self.inside.publisher.first ≤ 281474976645120 = omega (arith, before, chapter, first) in
    let seen = c.number-number.ensures.same.1 ∙ (c.tell.ensures.seen ∙ k.images) in
    let at = same_number s.1 c.number-number.result c.self.inside.publisher.first (length (exchanges c.self.inside.journal.entries)) c.number-number.new.self.seen k.front k.list (c.number-number.ensures.known s.0 s.1 s.2) seen k.fronts (c.number-number.ensures.number s.0 s.1 s.2) k.few limit early in
    let same = at.0 in
    let low = c.if-number-self.true in
    let firsts = ap (λ (d : LockedValue). d.first) c.self.view_is in
    let held = sym (ap (λ (r : ReaderEnd). r.held) c.reader.view_is) ∙ (sym c.tell.ensures.held ∙ s.2) in (
      (λ e. (s.0, s.1, held, omega (arith, same, low, firsts))),
      (λ e. refl),
    )

pub returns-clause-earlier : goal.returns-clause-earlier
returns-clause-earlier g c =
    let k = c.self.invariant.4 in
    let s = some_of c.tell.new.self.held (c.holds.ensures.0 c.if-not-holds.false) in
    let n = exchanges_length c.self.inside.journal.entries in
    let few = c.self.invariant.2 in
    let limit : length (exchanges c.self.inside.journal.entries) ≤ 65536 = omega (arith, few, n) in
    let before = c.self.invariant.6 in
    let chapter = c.self.invariant.7 in
    let first = c.self.invariant.8 in
    let early : c.self.inside.publisher.first ≤ 281474976645120 = omega (arith, before, chapter, first) in
    let seen = c.number-number.ensures.same.1 ∙ (c.tell.ensures.seen ∙ k.images) in
    let at = same_number s.1 c.number-number.result c.self.inside.publisher.first (length (exchanges c.self.inside.journal.entries)) c.number-number.new.self.seen k.front k.list (c.number-number.ensures.known s.0 s.1 s.2) seen k.fronts (c.number-number.ensures.number s.0 s.1 s.2) k.few limit early in
    let same = at.0 in
    let late = c.if-number-self.false in
    let firsts = ap (λ (d : LockedValue). d.first) c.self.view_is in
    let held = sym (ap (λ (r : ReaderEnd). r.held) c.reader.view_is) ∙ (sym c.tell.ensures.held ∙ s.2) in (
      (λ e. absurd (cc)),
      (λ h. let one = one_number c.args.reader.now.held h.0 h.1 s.0 s.1 h.2 held in let low = h.2 in let less = h.3 in absurd (omega (arith, one, same, late, firsts, less))),
    )
