use Rattle.std.proofs.Common.{ℕ, List, [], ◌∷◌, ◌++◌, ap, refl, subst, sym}
use Rattle.xcp_bank.specs.PinHistory.{looked_at}
use Rattle.xcp_slave.specs.declared.Request.{Request}
use Rattle.xcp_trace.specs.declared.Entry.{Entry}
use Rattle.xcp_locked.specs.declared.receipt.Receipt.{Receipt}
use Rattle.xcp_locked.specs.Caller.{CallerValue}
use Rattle.xcp_locked.specs.Journal.{entry, exchanges}
use Rattle.xcp_locked.specs.PublishingCalls.{AreAllImages, AreImagesFrom}
use Rattle.xcp_locked.proofs.tasks.submit_and_tell.Goals as goal

pub returns-in-Ok-clause-told : goal.returns-in-Ok-clause-told
returns-in-Ok-clause-told g c =
    let s = c.in-Ok.ensures {u = tt} in
    let call : Receipt = c.in-Ok.field-0 in
    let number = c.args.caller.now.number in
    let earlier : List Entry = c.args.locked.now.journal in
    let locked = c.submit.new.self in
    let reader = c.tell.new.reader in
    let asked = ap (λ (r : Receipt). r.request) s.receipt in
    let look = looked_at c.args.reader.now.index locked.writer.current in
    record {
      call = call;
      added = ap (λ (x : CallerValue). x.receipts) s.caller;
      asked = asked;
      calls = locked.before;
      base = locked.base;
      reached = c.known.ensures.reached;
      earlier = earlier;
      place = sym (ap (λ (r : Receipt). r.at) s.receipt);
      first = locked.first;
      images = subst (λ (q : Request). AreImagesFrom locked.first locked.base (exchanges (earlier ++ entry number q call.answer ∷ [])) reader.seen) (sym asked) (subst (λ (j : List Entry). AreImagesFrom locked.first locked.base (exchanges j) reader.seen) s.journal c.tell.ensures.published);
      all_images = subst (λ (q : Request). AreAllImages g.N.Name.layout locked.before locked.base (exchanges (earlier ++ entry number q call.answer ∷ [])) reader.seen) (sym asked) (subst (λ (j : List Entry). AreAllImages g.N.Name.layout locked.before locked.base (exchanges j) reader.seen) s.journal (subst (λ (l : List (List ℕ)). AreAllImages g.N.Name.layout locked.before locked.base (exchanges locked.journal) l) (sym c.tell.ensures.seen) c.known.ensures.all_published));
      deeds = look ∷ look ∷ [];
      did = c.tell.ensures.does;
      twice = refl;
      past = c.tell.ensures.past;
      held = c.tell.ensures.held;
      same_reader = c.tell.ensures.same_reader;
    }
