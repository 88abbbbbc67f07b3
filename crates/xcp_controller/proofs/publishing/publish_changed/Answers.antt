use Rattle.std.proofs.Common.{◌≡◌, ◌<◌, ◌++◌, ◌∷◌, [], ℕ, List, length, ap, sym, ◌∙◌, refl, subst, arith}
use Rattle.std.specs.Prelude.{slice_index}
use Rattle.xcp_controller.specs.ControllerValue.{image_of}
use Rattle.xcp_controller.proofs.ChangedImageLemmas.{changed, image-long, laid, same-nowhere, seen, unchanged}
use Rattle.xcp_controller.proofs.publishing.publish_changed.Goals as goal

-- where the range is empty the image is the one before
stands : (c : goal.Then-from-to) → image_of c.args.slave.now ≡ c.args.last.now
stands c =
    let h = seen c.args.asked c.args.told.now c.args.slave.now c.args.last.now c.changed_within-from.result.0 c.changed_within-from.result.1 c.known.ensures.transfer c.requires.step c.changed_within-from.ensures.order c.changed_within-from.ensures.inside c.changed_within-from.ensures.outside in
    same-nowhere c.args.last.now (image_of c.args.slave.now) c.changed_within-from.result.0 c.changed_within-from.result.1 h.long c.if-from-to.true h.outside

pub returns-then-from-to-clause-last : goal.returns-then-from-to-clause-last
returns-then-from-to-clause-last c = sym (stands c)

pub returns-then-from-to-clause-outcome : goal.returns-then-from-to-clause-outcome
returns-then-from-to-clause-outcome c = (stands c, refl)

pub slice_bounds-image_part-end : goal.slice_bounds-image_part-end
slice_bounds-image_part-end c = let h = seen c.args.asked c.args.told.now c.args.slave.now c.args.last.now c.changed_within-from.result.0 c.changed_within-from.result.1 c.known.ensures.transfer c.requires.step c.changed_within-from.ensures.order c.changed_within-from.ensures.inside c.changed_within-from.ensures.outside in let long = h.long in let inside = h.inside in omega (arith, long, inside)

pub returns-then-not-image_part-clause-last : goal.returns-then-not-image_part-clause-last
returns-then-not-image_part-clause-last c = laid c.args.last.now (image_of c.args.slave.now) c.image_part.new.out c.changed_within-from.result.0 c.changed_within-from.result.1 (seen c.args.asked c.args.told.now c.args.slave.now c.args.last.now c.changed_within-from.result.0 c.changed_within-from.result.1 c.known.ensures.transfer c.requires.step c.changed_within-from.ensures.order c.changed_within-from.ensures.inside c.changed_within-from.ensures.outside) c.image_part.ensures.bytes

pub returns-then-not-image_part-clause-outcome : goal.returns-then-not-image_part-clause-outcome
returns-then-not-image_part-clause-outcome c = (unchanged c.args.last.now (image_of c.args.slave.now) c.image_part.new.out c.changed_within-from.result.0 c.changed_within-from.result.1 (seen c.args.asked c.args.told.now c.args.slave.now c.args.last.now c.changed_within-from.result.0 c.changed_within-from.result.1 c.known.ensures.transfer c.requires.step c.changed_within-from.ensures.order c.changed_within-from.ensures.inside c.changed_within-from.ensures.outside) c.image_part.ensures.bytes c.if-not-image_part.ensures.differs, refl)

pub publish_within-requires-clause-size : goal.publish_within-requires-clause-size
publish_within-requires-clause-size c =
    ap length (laid c.args.last.now (image_of c.args.slave.now) c.image_part.new.out c.changed_within-from.result.0 c.changed_within-from.result.1 (seen c.args.asked c.args.told.now c.args.slave.now c.args.last.now c.changed_within-from.result.0 c.changed_within-from.result.1 c.known.ensures.transfer c.requires.step c.changed_within-from.ensures.order c.changed_within-from.ensures.inside c.changed_within-from.ensures.outside) c.image_part.ensures.bytes)
    ∙ image-long c.args.slave.now c.known.ensures.transfer ∙ sym c.requires.size

pub publish_within-requires-clause-outside : goal.publish_within-requires-clause-outside
publish_within-requires-clause-outside c i below o =
    let h = seen c.args.asked c.args.told.now c.args.slave.now c.args.last.now c.changed_within-from.result.0 c.changed_within-from.result.1 c.known.ensures.transfer c.requires.step c.changed_within-from.ensures.order c.changed_within-from.ensures.inside c.changed_within-from.ensures.outside in
    let whole = laid c.args.last.now (image_of c.args.slave.now) c.image_part.new.out c.changed_within-from.result.0 c.changed_within-from.result.1 h c.image_part.ensures.bytes in
    ap (λ (xs : List ℕ). slice_index xs i) whole ∙ h.outside i (subst (λ (xs : List ℕ). i < length xs) whole below) o ∙ ap (λ (xs : List ℕ). slice_index xs i) (sym c.requires.newest)

pub returns-clause-last : goal.returns-clause-last
returns-clause-last c = laid c.args.last.now (image_of c.args.slave.now) c.image_part.new.out c.changed_within-from.result.0 c.changed_within-from.result.1 (seen c.args.asked c.args.told.now c.args.slave.now c.args.last.now c.changed_within-from.result.0 c.changed_within-from.result.1 c.known.ensures.transfer c.requires.step c.changed_within-from.ensures.order c.changed_within-from.ensures.inside c.changed_within-from.ensures.outside) c.image_part.ensures.bytes

pub returns-clause-outcome : goal.returns-clause-outcome
returns-clause-outcome c =
    let h = seen c.args.asked c.args.told.now c.args.slave.now c.args.last.now c.changed_within-from.result.0 c.changed_within-from.result.1 c.known.ensures.transfer c.requires.step c.changed_within-from.ensures.order c.changed_within-from.ensures.inside c.changed_within-from.ensures.outside in (
      changed c.args.last.now (image_of c.args.slave.now) c.image_part.new.out c.changed_within-from.result.0 c.changed_within-from.result.1 h c.image_part.ensures.bytes c.if-not-image_part.ensures.differs,
      c.publish_within.ensures.appended ∙ ap (λ (xs : List ℕ). c.args.writer.now.publications ++ xs ∷ []) (laid c.args.last.now (image_of c.args.slave.now) c.image_part.new.out c.changed_within-from.result.0 c.changed_within-from.result.1 h c.image_part.ensures.bytes),
    )
