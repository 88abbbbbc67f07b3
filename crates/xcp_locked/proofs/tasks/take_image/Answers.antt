use Rattle.std.proofs.Common.{◌≡◌, ◌++◌, ℕ, List, ap, arith, drop, length, subst, sym, take, ◌∙◌}
use Rattle.std.proofs.lemmas.List.{take-append-le, take_all}
use mathlib.Core.List.{IsPrefix}
use Rattle.xcp_bank.specs.SeatKnowledge.{AllBegin}
use Rattle.xcp_memory.specs.EcuImage.{image_size}
use Rattle.xcp_locked.specs.TaskImages.{TookImage}
use Rattle.xcp_locked.proofs.TaskImageLaws.{newest, took_image}
use Rattle.xcp_locked.proofs.tasks.take_image.Goals as goal

-- bytes that were written over all bytes of a list
written : (ys xs : List ℕ) (n : ℕ) → length ys ≡ n → take n (ys ++ drop (length ys) xs) ≡ ys
written ys xs n e = take-append-le n ys (drop (length ys) xs) (omega (arith, e)) ∙ take_all n ys (omega (arith, e))

pub returns-clause-took : goal.returns-clause-took
returns-clause-took g c =
    let size : length c.deref_mut.result.now ≡ image_size g.N.Name.layout = ap length c.deref_mut.ensures.value ∙ c.last.invariant in
    let whole = written c.read.new.out c.last.inside.bytes.items c.last.inside.bytes.len (omega (arith, c.read.auto.out, c.deref_mut.ensures.len)) in
    subst (λ (y : List ℕ). TookImage c.args.reader.now c.read.new.self y) (sym whole)
    (took_image c.acquire.result _ _ _ _ _ _ (length c.deref_mut.result.now) (image_size g.N.Name.layout) size c.acquire.ensures.same_reader c.acquire.ensures.does c.acquire.ensures.rises
    c.read.ensures.does c.read.ensures.same_reader c.read.ensures.same (c.read.ensures.whole (omega (arith, size, c.read.ensures.some))) c.read.ensures.bytes)

pub returns-clause-seen : goal.returns-clause-seen
returns-clause-seen g c = (
  subst (λ s. IsPrefix c.args.reader.now.seen s) (sym c.read.ensures.same.1) c.acquire.ensures.knows.seen,
  subst (λ s. AllBegin c.args.reader.now.past s) (sym c.read.ensures.same.1) c.acquire.ensures.knows.past,
)

pub returns-clause-newest : goal.returns-clause-newest
returns-clause-newest g c number holds = newest c.args.reader.now c.acquire.new.self c.read.new.self number c.acquire.ensures.knows.seen c.acquire.ensures.has_seen c.acquire.ensures.holds_the_last c.read.ensures.same.0 holds
