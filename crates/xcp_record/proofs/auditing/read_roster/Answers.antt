use Rattle.std.proofs.Common.{inl, inr, ◌≡◌, ◌≤◌, ℕ, List, [], rules, arith, length, take, sym, subst, append-nil, length-take-le}
use Rattle.std.specs.Prelude.{Option}
use Rattle.std.specs.Io.KnownBytes.{Consumes}
use Rattle.std.proofs.KnownBytes.{Consumes-nil}
use Rattle.std.proofs.lemmas.List.{take_all}
use Rattle.sha2.specs.Hashers.{Holds256}
use Rattle.xcp_record.specs.Audit.{IsForeign}
use Rattle.xcp_record.proofs.HeadLemmas.{first_head, four_are, other_magic, second_head, short_roster}
use Rattle.xcp_record.proofs.auditing.read_roster.Goals as goal

-- a buffer that is full was read whole
full : (old new : Option (List ℕ)) (buffer : List ℕ) (n : ℕ) → length buffer ≤ n → Consumes old new (take n buffer) → Consumes old new buffer
full old new buffer n fits h = subst (Consumes old new) (take_all n buffer fits) h

pub returns-then-has_magic-clause-reads : goal.returns-then-has_magic-clause-reads
returns-then-has_magic-clause-reads g c = λ before held. (
  [],
  Consumes-nil _,
  first_head c.args.head.now (c.if-has_magic.ensures {u = tt}),
  subst (Holds256 _) (sym (append-nil before)) held,
)

pub returns-then-not-has_magic-clause-reads : goal.returns-then-not-has_magic-clause-reads
returns-then-not-has_magic-clause-reads g c = λ before held.
    let bytes = c.args.head.now in
    let size : length bytes ≡ 38 = search rules in
    let none = append-nil bytes in (
      [],
      Consumes-nil _,
      subst (IsForeign _) (sym none)
          (inr (omega (arith, size)), λ roster layout more is end front. other_magic bytes more roster layout (omega (arith, size)) (c.if-has_magic.ensures {u = tt}) (c.if-not-has_magic.ensures {u = tt}) front),
      tt,
    )

pub returns-then-got-lt-ROSTER_BYTES-clause-reads : goal.returns-then-got-lt-ROSTER_BYTES-clause-reads
returns-then-got-lt-ROSTER_BYTES-clause-reads g c = λ before held.
    let bytes = c.args.head.now in
    let size : length bytes ≡ 38 = search rules in
    let behind = c.fill.new.buffer in
    let less = c.if-got-lt-ROSTER_BYTES.true in
    let four = c.in-Ok.ensures.size in
    let short = length-take-le c.in-Ok.got behind (omega (arith, less, four)) in
    let end = c.in-Ok.ensures.ended less in
    let last = take c.in-Ok.got behind in (
      last,
      c.in-Ok.ensures.bytes,
      (inl end, λ roster layout more is none front. short_roster bytes last more roster layout size (c.if-not-has_magic.ensures {u = tt}) (omega (arith, short, less)) is (none end) front),
      tt,
    )

pub returns-clause-reads : goal.returns-clause-reads
returns-clause-reads g c = λ before held.
    let behind = c.fill.new.buffer in
    let more = c.if-got-lt-ROSTER_BYTES.false in
    let four = c.in-Ok.ensures.size in (
      behind,
      full _ _ behind c.in-Ok.got (omega (arith, four, more)) c.in-Ok.ensures.bytes,
      second_head c.args.head.now behind _ (c.if-not-has_magic.ensures {u = tt}) (four_are behind four),
      c.update.ensures before held,
    )
