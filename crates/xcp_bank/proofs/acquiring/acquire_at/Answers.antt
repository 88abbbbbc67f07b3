use Rattle.std.proofs.Common.{◌≡◌, ℕ, false, ◌||◌, Bool, Option, ap, ◌∙◌, sym, subst}
use Rattle.xcp_bank.specs.SeatKnowledge.{Reading}
use Rattle.xcp_bank.specs.private.SeatSteps.{buffer_held, LookedAt, PinnedAt}
use Rattle.xcp_bank.proofs.ReaderSeatLemmas.{sits_one, held_at, held_none, acquired_first, acquired_same, acquired_other}
use Rattle.xcp_bank.proofs.acquiring.acquire_at.Goals as goal

-- what is known of the reader that the caller has, of each that fits the seat
abbrev Known_of : Option ℕ → ℕ × Reading → Type 0
Known_of o z = (z.1.pins.gone ≡ false) × (o ≡ buffer_held z.1)

pub unpin-requires-clause-buffer : goal.unpin-requires-clause-buffer
unpin-requires-clause-buffer c = let f = c.requires in f.5 c.in-Some.buffer c.in-Some.is

pub unpin-requires-clause-seat : goal.unpin-requires-clause-seat
unpin-requires-clause-seat c =
    let f = c.requires in
    let h = held_at f.1.pins.held c.in-Some.buffer (sym f.4 ∙ c.in-Some.is) in
    let l = c.look.ensures f.0 f.1 f.2 in
    let g : LookedAt c.look.result c.args.board.now.slots f.0 f.1 l.0 = l.2 in (
      f.0,
      l.0,
      l.1,
      h.0,
      ap (λ (u : Reading). u.pins.held) g.1.is ∙ h.1,
      (λ e. c.if-look-buffer.false (g.2 ∙ (sym (ap (λ (u : Reading). u.pins.looked) g.1.is) ∙ e))),
    )

pub pin-requires-2 : goal.pin-requires-2
pin-requires-2 c =
    let f = c.requires in
    let l = c.look.ensures f.0 f.1 f.2 in
    let g : LookedAt c.look.result c.args.board.now.slots f.0 f.1 l.0 = l.2 in
    let u = c.unpin.ensures f.0 l.0 l.1 in
    (f.0, u.0, u.1, ap (λ (v : Reading). v.pins.gone) u.2.is ∙ ap (λ (t : Bool). t || false) (ap (λ (v : Reading). v.pins.gone) g.1.is ∙ f.3), ap (λ (v : Reading). v.pins.held) u.2.is)

pub returns-in_default : goal.returns-in_default
returns-in_default c = λ r x s.
    let f = c.requires in
    let k : Known_of c.args.held (r, x) = subst (Known_of c.args.held) (sits_one c.args.token.now c.args.board.now f.0 r f.1 x f.2 s) (f.3, f.4) in
    let p = c.pin.ensures r x s in
    let g : PinnedAt c.pin.result c.args.board.now.slots r x p.0 = p.2 in
    (p.0, p.1, acquired_first c.args.board.now.slots r x p.0 c.pin.result k.0 (held_none x.pins.held (sym k.1 ∙ c.in_default.is)) g)

pub returns-then-look-buffer : goal.returns-then-look-buffer
returns-then-look-buffer c = λ r x s.
    let f = c.requires in
    let k : Known_of c.args.held (r, x) = subst (Known_of c.args.held) (sits_one c.args.token.now c.args.board.now f.0 r f.1 x f.2 s) (f.3, f.4) in
    let h = held_at x.pins.held c.in-Some.buffer (sym k.1 ∙ c.in-Some.is) in
    let l = c.look.ensures r x s in
    let g : LookedAt c.in-Some.buffer c.args.board.now.slots r x l.0 = subst (λ (b : ℕ). LookedAt b c.args.board.now.slots r x l.0) c.if-look-buffer.true l.2 in
    (l.0, l.1, acquired_same c.args.board.now.slots r x l.0 c.in-Some.buffer h.0 k.0 h.1 g)

pub returns : goal.returns
returns c = λ r x s.
    let f = c.requires in
    let k : Known_of c.args.held (r, x) = subst (Known_of c.args.held) (sits_one c.args.token.now c.args.board.now f.0 r f.1 x f.2 s) (f.3, f.4) in
    let h = held_at x.pins.held c.in-Some.buffer (sym k.1 ∙ c.in-Some.is) in
    let l = c.look.ensures r x s in
    let g : LookedAt c.look.result c.args.board.now.slots r x l.0 = l.2 in
    let u = c.unpin.ensures r l.0 l.1 in
    let p = c.pin-2.ensures r u.0 u.1 in
    let m : PinnedAt c.pin-2.result c.args.board.now.slots r u.0 p.0 = p.2 in
    (p.0, p.1, acquired_other c.args.board.now.slots r x l.0 u.0 p.0 c.look.result c.in-Some.buffer c.pin-2.result h.0 k.0 h.1 g (λ e. c.if-look-buffer.false (sym e)) u.2 m)
