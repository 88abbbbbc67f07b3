use Rattle.std.proofs.Common.{ℕ, List, [], ◌∷◌, ◌++◌, ap, refl, subst, sym}
use Rattle.xcp_bank.specs.PinHistory.{looked_at}
use Rattle.xcp_slave.specs.AnswerInBytes.{answer_in}
use Rattle.xcp_slave.specs.AskedRequest.{request_asked}
use Rattle.xcp_locked.specs.Caller.{CallerValue}
use Rattle.xcp_locked.specs.Journal.{entry, exchanges}
use Rattle.xcp_locked.specs.PublishingCalls.{AreAllImages, AreImagesFrom}
use Rattle.xcp_service.specs.Calls.{receipt_at}
use Rattle.xcp_seats.proofs.ticker.submit_and_tell.Goals as goal

pub returns-in-Ok-clause-told : goal.returns-in-Ok-clause-told
returns-in-Ok-clause-told g c =
    let said = (c.in-Ok.ensures {u = tt}).member in
    let published = said.3 in
    let call = receipt_at said.0 (request_asked c.args.asked) (answer_in c.in-Ok.told c.call.new.packet) in
    let look = looked_at c.args.reader.now.index c.call.new.resident.locked.writer.current in
    record {
      call = call;
      added = ap (λ (m : CallerValue). m.receipts) said.2;
      asked = refl;
      calls = published.before;
      base = published.base;
      reached = published.reached;
      earlier = published.earlier;
      place = published.place;
      first = published.first;
      images = subst (λ (l : List (List ℕ)). AreImagesFrom published.first published.base (exchanges (published.earlier ++ entry c.args.member.now.number call.request call.answer ∷ [])) l) (sym c.tell.ensures.seen) published.images;
      all_images = subst (λ (l : List (List ℕ)). AreAllImages g.N.Name.layout published.before published.base (exchanges (published.earlier ++ entry c.args.member.now.number call.request call.answer ∷ [])) l) (sym c.tell.ensures.seen) published.all_images;
      deeds = look ∷ look ∷ [];
      did = c.tell.ensures.does;
      twice = refl;
      past = c.tell.ensures.past;
      held = c.tell.ensures.held;
      same_reader = c.tell.ensures.same_reader;
    }
