use Rattle.std.proofs.Common.{◌≡◌, ℕ, List, ◌∙◌, ap, arith, rules}
use Rattle.relay.specs.Ends.{TakerValue}
use Rattle.xcp_behind.proofs.WritingLemmas.{taken_more, wrote_more, wrote_front}
use Rattle.xcp_behind.proofs.write_end.WriteEnd.write_all.Goals as goal

pub loop-turn-preserved : goal.loop-turn-preserved
loop-turn-preserved g c =
    let at = c.loop-turn in
    let taken = c.in-Some-take.ensures.taken in
    let first : c.in-Some-take._tag ≡ 0 = omega (arith, c.in-Some-take.ensures.tag, at.invariant.1) in (
      ap (λ (t : TakerValue (List ℕ)). t.relay) taken ∙ at.invariant.0,
      ap (λ (t : TakerValue (List ℕ)). t.givers) taken ∙ at.invariant.1,
      ap (λ (t : TakerValue (List ℕ)). t.relay) taken ∙ at.invariant.2,
      wrote_more _ _ _ _ _ c.in-Some-take.piece
          (taken_more at.taker.taken _ c.in-Some-take._tag c.in-Some-take.piece first (ap (λ (t : TakerValue (List ℕ)). t.taken) taken)) at.invariant.3 (c.write_whole-written.ensures.whole (search rules)),
    )

pub invariant_of-result-then-not-is_written : goal.invariant_of-result-then-not-is_written
invariant_of-result-then-not-is_written g c =
    let at = c.loop-turn in
    let taken = c.in-Some-take.ensures.taken in
    let first : c.in-Some-take._tag ≡ 0 = omega (arith, c.in-Some-take.ensures.tag, at.invariant.1) in (
      ap (λ (t : TakerValue (List ℕ)). t.relay) taken ∙ at.invariant.0,
      ap (λ (t : TakerValue (List ℕ)). t.givers) taken ∙ at.invariant.1,
      wrote_front _ _ _ _ _ c.in-Some-take.piece
          (taken_more at.taker.taken _ c.in-Some-take._tag c.in-Some-take.piece first (ap (λ (t : TakerValue (List ℕ)). t.taken) taken)) at.invariant.3 (c.write_whole-written.ensures.front (search rules)),
    )

pub returns-then-not-is_written-clause-stands : goal.returns-then-not-is_written-clause-stands
returns-then-not-is_written-clause-stands g c =
    let at = c.loop-turn in
    let taken = c.in-Some-take.ensures.taken in
    let first : c.in-Some-take._tag ≡ 0 = omega (arith, c.in-Some-take.ensures.tag, at.invariant.1) in
    wrote_front _ _ _ _ _ c.in-Some-take.piece
    (taken_more at.taker.taken _ c.in-Some-take._tag c.in-Some-take.piece first (ap (λ (t : TakerValue (List ℕ)). t.taken) taken)) at.invariant.3 (c.write_whole-written.ensures.front (search rules))
