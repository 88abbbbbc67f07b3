use Rattle.std.proofs.Common.{◌≡◌, ◌++◌, ◌∷◌, [], Bool, true, false, MatchBool, inl, inr, length, ap, refl, subst, sym, ◌∙◌}
use Rattle.xcp_slave.specs.AnswerInBytes.{answer_in}
use Rattle.xcp_slave.specs.AskedRequest.{request_asked}
use Rattle.xcp_locked.specs.Caller.{accepting}
use Rattle.xcp_locked.specs.Journal.{entry, exchanges}
use Rattle.xcp_locked.specs.PublishingCalls.{AreAllImages, AreImagesFrom}
use Rattle.xcp_locked.specs.Receipts.{receipt}
use Rattle.xcp_service.specs.Calls.{IsBegun}
use Rattle.xcp_service.specs.Residents.{ResidentValue, with_a_cut}
use Rattle.xcp_service.proofs.calling.call.Goals as goal
use Rattle.xcp_service.proofs.calling.call.Goals.{then-len, else-len, then-ends_chapter, else-ends_chapter}

-- a cut publishes nothing
kept : (b : Bool) (old new : ResidentValue) → MatchBool b (new ≡ with_a_cut old) (new ≡ old) → new.locked.writer.publications ≡ old.locked.writer.publications
kept true old new h = ap (λ r. r.locked.writer.publications) h
kept false old new h = ap (λ r. r.locked.writer.publications) h

-- a call begins behind a cut, if there was one
begun_by : (b : Bool) (old new begun : ResidentValue) → MatchBool b (new ≡ with_a_cut old) (new ≡ old) → begun ≡ new → IsBegun old begun
begun_by true old new begun h is = inr (is ∙ h)
begun_by false old new begun h is = inl (is ∙ h)

pub returns-clause-member : goal.returns-clause-member
returns-clause-member g c =
    let begun = c.hand_over.new.resident in
    let done = c.submit.new.resident in
    let request = request_asked c.args.asked in
    let answer = answer_in c.in_ok-told.told c.submit.new.packet in
    let same = c.hand_over.ensures.0 in
    let begins : IsBegun c.args.resident.now begun = elim c.if-len.branch [
      | then-len w ↦ begun_by w.cut_chapter.result c.args.resident.now w.cut_chapter.new.self begun w.cut_chapter.ensures (c.hand_over.ensures.1 ∙ w.resident-is)
      | else-len w ↦ inl (c.hand_over.ensures.1 ∙ w.resident-is)
    ] in
    let published : c.if-ends_chapter.resident.locked.writer.publications ≡ done.locked.writer.publications = elim c.if-ends_chapter.branch [
      | then-ends_chapter w ↦ ap (λ r. r.locked.writer.publications) w.resident-is ∙ kept w.cut_chapter-then-ends_chapter.result done w.cut_chapter-then-ends_chapter.new.self w.cut_chapter-then-ends_chapter.ensures
      | else-ends_chapter w ↦ ap (λ r. r.locked.writer.publications) w.resident-is
    ] in
    let journal = subst (λ m. done.locked.journal ≡ begun.locked.journal ++ entry m.number request answer ∷ []) same c.in_ok-told.ensures.journal in
    let all_images = subst (λ j. AreAllImages g.N.Name.layout done.locked.before done.locked.base (exchanges j) done.locked.writer.publications) journal c.known.ensures.all_images in
    let images = subst (λ j. AreImagesFrom done.locked.first done.locked.base (exchanges j) done.locked.writer.publications) journal c.known.ensures.images in (
      begun,
      begins,
      subst (λ m. c.submit.new.self ≡ accepting m (receipt begun.locked.chapter (length begun.locked.journal) request answer)) same c.in_ok-told.ensures.caller,
      record {
        before = done.locked.before;
        base = done.locked.base;
        reached = c.known.ensures.reached;
        earlier = begun.locked.journal;
        place = refl;
        first = done.locked.first;
        images = subst (λ ps. AreImagesFrom done.locked.first done.locked.base (exchanges (begun.locked.journal ++ entry c.args.member.now.number request answer ∷ [])) ps) (sym published) images;
        all_images = subst (λ ps. AreAllImages g.N.Name.layout done.locked.before done.locked.base (exchanges (begun.locked.journal ++ entry c.args.member.now.number request answer ∷ [])) ps) (sym published) all_images;
      },
    )
