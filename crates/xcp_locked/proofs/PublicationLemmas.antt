-- What is published of a run that is one exchange longer.
use Rattle.std.proofs.Common.{◌≡◌, ◌≢◌, ℕ, suc, ◌+◌, inl, inr, List, [], ◌∷◌, ◌++◌, length, refl, sym, ap, ◌∙◌, subst, arith, length-append, append_assoc}
use Rattle.std.proofs.lemmas.List.{length-map, map-append}
use Rattle.xcp_bank.specs.BankId.{BankId, image_bytes}
use Rattle.xcp_bank.specs.BankEnds.{new_writer, newest}
use Rattle.xcp_slave.specs.declared.Exchange.{Exchange}
use Rattle.xcp_slave.specs.declared.Request.{Request}
use Rattle.xcp_slave.specs.Outcomes.{Answer}
use Rattle.xcp_slave.specs.SlaveValue.{SlaveValue}
use Rattle.xcp_slave.specs.Step.{Answers}
use Rattle.xcp_slave.specs.Run.{Run}
use Rattle.xcp_slave.proofs.StepLaws.{answers-single}
use Rattle.xcp_trace.specs.declared.Entry.{Entry}
use Rattle.xcp_locked.specs.declared.publisher.Publisher.{Publisher}
use Rattle.xcp_locked.specs.Journal.{entry, exchanges}
use Rattle.xcp_locked.specs.Publications.{Publication, publication, image_of, images_of, LeadsThrough, Changes, Published}
use Rattle.xcp_locked.specs.private.OfferedImages.{IsOfferKept, Offers}
use Rattle.xcp_locked.proofs.JournalLemmas.{exchanges_snoc}

-- the image of the last of these states, behind one with the image `before`
abbrev pub last_image : List ℕ → List SlaveValue → List ℕ
last_image before [] = before
last_image before (v ∷ later) = last_image (image_of v) later

changes_same : (before : List ℕ) (at : ℕ) (later : List SlaveValue) (w : SlaveValue) (list : List Publication) → image_of w ≡ last_image before later → Changes before at later list → Changes before at (later ++ w ∷ []) list
changes_same before at [] w list same h = inl (same, h)
changes_same before at (v ∷ later) w list same (inl h) = inl (h.0, changes_same before (suc at) later w list (same ∙ ap (λ z. last_image z later) h.0) h.1)
changes_same before at (v ∷ later) w list same (inr h) = inr (h.0, h.1, changes_same (image_of v) (suc at) later w h.1 same h.2, h.3)

changes_other : (before : List ℕ) (at n : ℕ) (later : List SlaveValue) (w : SlaveValue) (list : List Publication) → n ≡ at + length later → image_of w ≢ last_image before later → Changes before at later list → Changes before at (later ++ w ∷ []) (list ++ publication n (image_of w) ∷ [])
changes_other before at n [] w list is other h =
    let e : n ≡ at = omega (arith, is) in
    inr (other, [], refl, ap (λ (z : List Publication). z ++ publication n (image_of w) ∷ []) h ∙ ap (λ (k : ℕ). publication k (image_of w) ∷ []) e)
changes_other before at n (v ∷ later) w list is other (inl h) =
    inl (h.0, changes_other before (suc at) n later w list (omega (arith, is)) (λ same. other (same ∙ ap (λ z. last_image z later) (sym h.0))) h.1)
changes_other before at n (v ∷ later) w list is other (inr h) =
    inr (h.0, h.1 ++ publication n (image_of w) ∷ [], changes_other (image_of v) (suc at) n later w h.1 (omega (arith, is)) other h.2, ap (λ (z : List Publication). z ++ publication n (image_of w) ∷ []) h.3)

-- the states of a run end where it ends
pub leads_to : (v : SlaveValue) (xs : List Exchange) (states : List SlaveValue) (w : SlaveValue) → LeadsThrough v xs states → Run v xs w → last_image (image_of v) states ≡ image_of w
leads_to v [] states w h r = ap (λ z. last_image (image_of v) z) h ∙ ap image_of (sym r)
leads_to v (x ∷ xs) states w h r =
    let same = answers-single v x.request x.answer x.answer h.0 r.0 h.2 r.1 in
    ap (λ z. last_image (image_of v) z) h.4 ∙ leads_to h.0 xs h.1 w h.3 (subst (λ (m : SlaveValue). Run m xs w) (sym same.1) r.2)

leads_on : (v : SlaveValue) (xs : List Exchange) (states : List SlaveValue) (w : SlaveValue) (x : Exchange) (u : SlaveValue) → LeadsThrough v xs states → Run v xs w → Answers w x.request x.answer u → LeadsThrough v (xs ++ x ∷ []) (states ++ u ∷ [])
leads_on v [] states w x u h r a = (u, [], subst (λ (m : SlaveValue). Answers m x.request x.answer u) r a, refl, ap (λ (z : List SlaveValue). z ++ u ∷ []) h)
leads_on v (y ∷ xs) states w x u h r a =
    let same = answers-single v y.request y.answer y.answer h.0 r.0 h.2 r.1 in
    (h.0, h.1 ++ u ∷ [], h.2, leads_on h.0 xs h.1 w x u h.3 (subst (λ (m : SlaveValue). Run m xs w) (sym same.1) r.2) a, ap (λ (z : List SlaveValue). z ++ u ∷ []) h.4)

one_each : (v : SlaveValue) (xs : List Exchange) (states : List SlaveValue) → LeadsThrough v xs states → length states ≡ length xs
one_each v [] states h = ap length h
one_each v (x ∷ xs) states h = ap length h.4 ∙ ap suc (one_each h.0 xs h.1 h.3)

-- one more exchange that leaves the image as it was publishes nothing more
pub published_same : (v : SlaveValue) (xs : List Exchange) (w : SlaveValue) (x : Exchange) (u : SlaveValue) (list : List Publication) → Run v xs w → Answers w x.request x.answer u → image_of u ≡ image_of w → Published v xs list → Published v (xs ++ x ∷ []) list
published_same v xs w x u list r a same p = record {
  states = p.states ++ u ∷ [];
  run = leads_on v xs p.states w x u p.run r a;
  changed = p.changed;
  changes = changes_same (image_of v) 1 p.states u p.changed (same ∙ sym (leads_to v xs p.states w p.run r)) p.changes;
  is = p.is;
}

-- one more exchange that gives another image publishes it, with the number of exchanges as its place
pub published_other : (v : SlaveValue) (xs : List Exchange) (w : SlaveValue) (x : Exchange) (u : SlaveValue) (n : ℕ) (list : List Publication) → Run v xs w → Answers w x.request x.answer u → n ≡ length xs + 1 → image_of u ≢ image_of w → Published v xs list → Published v (xs ++ x ∷ []) (list ++ publication n (image_of u) ∷ [])
published_other v xs w x u n list r a is other p =
    let k = one_each v xs p.states p.run in
    record {
      states = p.states ++ u ∷ [];
      run = leads_on v xs p.states w x u p.run r a;
      changed = p.changed ++ publication n (image_of u) ∷ [];
      changes = changes_other (image_of v) 1 n p.states u p.changed (omega (arith, is, k)) (λ same. other (same ∙ leads_to v xs p.states w p.run r)) p.changes;
      is = ap (λ (z : List Publication). z ++ publication n (image_of u) ∷ []) p.is;
    }

-- nothing was done yet: the first image is published
pub published_first : (v : SlaveValue) → Published v [] (publication 0 (image_of v) ∷ [])
published_first v = record { states = []; run = refl; changed = []; changes = refl; is = refl }

-- before any call
pub kept_first : (size : ℕ) (bank : BankId) (base : SlaveValue) (es : List Entry) (v : SlaveValue) (p : Publisher) → es ≡ [] → v ≡ base → p.writer ≡ new_writer bank (image_of v) → p.places.items ≡ 0 ∷ [] → p.last.items ≡ image_of v → p.first ≡ 0 → image_bytes bank ≡ size → IsOfferKept size bank base (exchanges es) v p
kept_first size bank base es v p none is writer places last first sized = record {
  list = publication 0 (image_of v) ∷ [];
  published = subst (λ (z : SlaveValue). Published z (exchanges es) (publication 0 (image_of v) ∷ [])) is (subst (λ (z : List Entry). Published v (exchanges z) (publication 0 (image_of v) ∷ [])) (sym none) (published_first v));
  front = [];
  fronts = sym first;
  images = ap (λ z. z.publications) writer;
  places = places;
  few = omega arith;
  last = last;
  newest = ap newest writer ∙ sym last;
  named = ap (λ z. z.bank) writer;
  sized = sized;
}

-- a journal has as many exchanges as entries
pub exchanges_length : (es : List Entry) → length (exchanges es) ≡ length es
exchanges_length es = length-map es (λ (e : Entry). e.exchange)

-- the exchange x led from w to u, and u's image was offered
kept_on : {size : ℕ} (bank : BankId) (v : SlaveValue) (xs : List Exchange) (w : SlaveValue) (x : Exchange) (u : SlaveValue) (n : ℕ) (p q r : Publisher) → Run v xs w → Answers w x.request x.answer u → n ≡ length xs + 1 → q.writer ≡ p.writer → q.places.items ≡ p.places.items → q.last.items ≡ p.last.items → q.first ≡ p.first → Offers n (image_of u) q r → IsOfferKept size bank v xs w p → IsOfferKept size bank v (xs ++ x ∷ []) u r
kept_on {size} bank v xs w x u n p q r run a is writer places last same o k =
    let first : r.first ≡ p.first = o.first ∙ same in
    let more : length (xs ++ x ∷ []) ≡ length xs + 1 = length-append xs (x ∷ []) in
    let named = o.bank ∙ ap (λ z. z.bank) writer ∙ k.named in
    let before : q.last.items ≡ image_of w = last ∙ k.last in
    let images = ap (λ z. z.publications) writer ∙ k.images in
    let few = k.few in
    elim o.outcome [
      | inl s ↦ record {
        list = k.list;
        published = published_same v xs w x u k.list run a (s.0 ∙ before) k.published;
        front = k.front;
        fronts = k.fronts ∙ sym first;
        images = s.1 ∙ images;
        places = s.2 ∙ (places ∙ k.places);
        few = omega (arith, few, more);
        last = o.last;
        newest = o.newest;
        named = named;
        sized = k.sized;
      }
      | inr s ↦ record {
        list = k.list ++ publication n (image_of u) ∷ [];
        published = published_other v xs w x u n k.list run a is (λ same. s.0 (same ∙ sym before)) k.published;
        front = k.front;
        fronts = k.fronts ∙ sym first;
        images = s.1 ∙ (ap (λ z. z ++ image_of u ∷ []) images ∙ (append_assoc k.front (images_of k.list) (image_of u ∷ []) ∙ ap (λ z. k.front ++ z) (sym (map-append (λ (z : Publication). z.image) k.list (publication n (image_of u) ∷ [])))));
        places = s.2 ∙ (ap (λ z. z ++ n ∷ []) (places ∙ k.places) ∙ sym (map-append (λ (z : Publication). z.place) k.list (publication n (image_of u) ∷ [])));
        few = (let l = length-append k.list (publication n (image_of u) ∷ []) in omega (arith, few, more, l));
        last = o.last;
        newest = o.newest;
        named = named;
        sized = k.sized;
      }
    ]

-- the same, of a journal that is said to be one call longer
pub kept_goes_on : {size : ℕ} (bank : BankId) (v : SlaveValue) (es more : List Entry) (w : SlaveValue) (by : ℕ) (q : Request) (a : Answer) (u : SlaveValue) (n : ℕ) (old mid new : Publisher) → more ≡ es ++ entry by q a ∷ [] → Run v (exchanges es) w → Answers w q a u → n ≡ length es + 1 → mid.writer ≡ old.writer → mid.places.items ≡ old.places.items → mid.last.items ≡ old.last.items → mid.first ≡ old.first → Offers n (image_of u) mid new → IsOfferKept size bank v (exchanges es) w old → IsOfferKept size bank v (exchanges more) u new
kept_goes_on {size} bank v es more w by q a u n old mid new is run step place writer places last first o k =
    let len = exchanges_length es in
    subst (λ z. IsOfferKept size bank v z u new) (sym (ap exchanges is ∙ exchanges_snoc es (entry by q a)))
    (kept_on bank v (exchanges es) w (record { request = q; answer = a }) u n old mid new run step (omega (arith, place, len)) writer places last first o k)
