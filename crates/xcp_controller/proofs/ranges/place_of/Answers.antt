use Rattle.std.proofs.Common.{◌≡◌, ℕ, ap, ◌∙◌, arith}
use Rattle.xcp_memory.specs.EcuImage.{bytes_in_all, image_place}
use Rattle.xcp_memory.specs.Layout.{LayoutValue}
use Rattle.xcp_memory.proofs.EcuImageLemmas.{class_most, size_room}
use Rattle.xcp_controller.proofs.ImageRangeLemmas.{place-next, place-room}
use Rattle.xcp_controller.proofs.ranges.place_of.Goals as goal

pub overflow_add-at : goal.overflow_add-at
overflow_add-at c =
    let room = place-room c.args.layout.now c.loop-before.before (omega (arith, c.requires, c.loop-before-test.true)) in
    omega (arith, room, c.known.ensures.total, class_most c.args.layout.now.class, c.loop-before.invariant, c.segment_size-at.ensures.value)

pub loop-before-preserved : goal.loop-before-preserved
loop-before-preserved c =
    let next = place-next c.args.layout.now c.loop-before.before (omega (arith, c.requires, c.loop-before-test.true)) in
    omega (arith, next, c.loop-before.invariant, c.segment_size-at.ensures.value)

-- the segment begins where the loop ends
here : (l : LayoutValue) (i k at : ℕ) → at ≡ image_place l i → i ≡ k → at ≡ image_place l k
here l i k at begins end = begins ∙ ap (image_place l) end

pub returns-clause-room : goal.returns-clause-room
returns-clause-room c =
    let l = c.args.layout.now in
    let end : c.loop-before.before ≡ c.args.segment = omega (arith, c.loop-before-test.false, c.loop-before.auto.before-end) in
    omega (arith, place-room l c.args.segment c.requires, here l _ c.args.segment c.loop-before.at c.loop-before.invariant end, size_room l.class (bytes_in_all l) c.known.ensures.total)

pub returns-clause-bound : goal.returns-clause-bound
returns-clause-bound c =
    let l = c.args.layout.now in
    let end : c.loop-before.before ≡ c.args.segment = omega (arith, c.loop-before-test.false, c.loop-before.auto.before-end) in
    omega (arith, place-room l c.args.segment c.requires, here l _ c.args.segment c.loop-before.at c.loop-before.invariant end, c.known.ensures.total, class_most l.class)
