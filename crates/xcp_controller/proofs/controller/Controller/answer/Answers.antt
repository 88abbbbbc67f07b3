use Rattle.std.proofs.Common.{◌≡◌, ◌≢◌, ◌∷◌, ◌++◌, [], ◌∙◌, ℕ, Bool, true, false, List, ap, arith, drop, length, map, refl, subst, sym, take}
use Rattle.std.specs.Prelude.{MatchBool}
use Rattle.std.proofs.lemmas.List.{take-append-le, take_all}
use Rattle.xcp_bank.specs.BankEnds.{WriterEnd}
use Rattle.std.specs.List.{AllByRecursion}
use Rattle.xcp_bank.specs.BankId.{image_bytes}
use Rattle.xcp_memory.specs.EcuImage.{image_size}
use Rattle.xcp_slave.specs.AnswerInBytes.{answer_in}
use Rattle.xcp_slave.specs.AskedRequest.{request_asked}
use Rattle.xcp_slave.specs.Outcomes.{Answer}
use Rattle.xcp_slave.specs.SlaveValue.{SlaveValue, layout_of}
use Rattle.xcp_slave.specs.Step.{Answers}
use Rattle.xcp_slave.specs.declared.request.Request.{Request}
use Rattle.xcp_controller.specs.ControllerValue.{ReadsImages, image_of}
use Rattle.xcp_slave.proofs.LayoutKeptLemmas.{answers-layout}
use Rattle.xcp_controller.proofs.controller.Controller.answer.Goals as goal

-- the slave has its layout behind the request, too
same : (old was new is : SlaveValue) (q : Request) (a : Answer) → was ≡ old → is ≡ new → Answers was q a new → layout_of old ≡ layout_of is
same old was new is q a before behind step = ap layout_of (sym before) ∙ sym (answers-layout was q a new step) ∙ ap layout_of (sym behind)

-- bytes that were written over all bytes of a list
written : (ys xs : List ℕ) (n : ℕ) → length ys ≡ n → take n (ys ++ drop (length ys) xs) ≡ ys
written ys xs n e = take-append-le n ys (drop (length ys) xs) (omega (arith, e)) ∙ take_all n ys (omega (arith, e))

-- where an image is published if it isn't the last one, it is the one published last then
publishes : (r : Bool) (last image before after : List ℕ) (old new : WriterEnd) → last ≡ before → image ≡ after → MatchBool r ((image ≢ last) × (new.publications ≡ old.publications ++ image ∷ [])) ((image ≡ last) × (new.publications ≡ old.publications))
    → ((earlier : List (List ℕ)) × (old.publications ≡ earlier ++ before ∷ [])) → (earlier : List (List ℕ)) × (new.publications ≡ earlier ++ after ∷ [])
publishes true last image before after old new was is o h = (old.publications, o.1 ∙ ap (λ i. old.publications ++ i ∷ []) is)
publishes false last image before after old new was is o h = (h.0, o.1 ∙ h.1 ∙ ap (λ i. h.0 ++ i ∷ []) (sym was ∙ sym o.0 ∙ is))

pub publish_changed-requires-clause-size : goal.publish_changed-requires-clause-size
publish_changed-requires-clause-size c =
    c.self.invariant.3 ∙ ap image_size (same c.self.inside.slave.value c.deref_mut.result.now c.answer-told.new.self c.deref-2.result.now (request_asked c.args.asked) (answer_in c.answer-told.result c.answer-told.new.packet) c.deref_mut.ensures.value c.deref-2.ensures c.answer-told.ensures)

pub invariant_of-self : goal.invariant_of-self
invariant_of-self c =
    let layout = same c.self.inside.slave.value c.deref_mut.result.now c.answer-told.new.self c.answer-told.new.self (request_asked c.args.asked) (answer_in c.answer-told.result c.answer-told.new.packet) c.deref_mut.ensures.value refl c.answer-told.ensures in
    let laid = written c.publish_changed.new.last c.self.inside.last.items c.self.inside.last.len (omega (arith, c.publish_changed.auto.last, c.deref_mut-2.ensures.len)) in
    let image = c.publish_changed.ensures.last ∙ ap image_of c.deref-2.ensures in (
      laid ∙ image,
      c.publish_changed.ensures.newest ∙ sym laid,
      publishes c.publish_changed.result c.deref_mut-2.result.now (image_of c.deref-2.result.now) (image_of c.self.inside.slave.value) (image_of c.answer-told.new.self) c.self.inside.writer c.publish_changed.new.writer (c.deref_mut-2.ensures.value ∙ c.self.invariant.0) (ap image_of c.deref-2.ensures) c.publish_changed.ensures.outcome c.self.invariant.2,
      ap image_bytes c.publish_changed.ensures.bank ∙ c.self.invariant.3 ∙ ap image_size layout,
      subst (λ (n : ℕ). AllByRecursion (ReadsImages n) (map (λ b. b.value) c.self.inside.spare.items)) (ap image_size layout) c.self.invariant.4,
    )
