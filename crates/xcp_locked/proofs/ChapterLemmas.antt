-- What holds where a chapter ends and the next one begins.
use Rattle.std.proofs.Common.{◌≡◌, ◌≢◌, ◌≤◌, ◌⊎◌, inl, inr, ℕ, ◌+◌, ◌-◌, List, [], ◌∷◌, ◌++◌, length, refl, sym, ap, ◌∙◌, subst, arith, length-append, append_assoc, append-nil}
use Rattle.std.specs.Prelude.{vec_len}
use Rattle.std.proofs.lemmas.List.{map-append}
use Rattle.xcp_bank.specs.BankEnds.{newest}
use Rattle.xcp_bank.specs.BankId.{BankId}
use Rattle.xcp_memory.specs.Layout.{LayoutValue}
use Rattle.xcp_slave.specs.declared.Exchange.{Exchange}
use Rattle.xcp_slave.specs.declared.Request.{Request}
use Rattle.xcp_slave.specs.Outcomes.{Answer}
use Rattle.xcp_slave.specs.SlaveValue.{SlaveValue, layout_of, opening}
use Rattle.xcp_slave.specs.Run.{Run}
use Rattle.xcp_slave.specs.Step.{Answers}
use Rattle.xcp_slave.proofs.RunLaws.{run-layout}
use Rattle.xcp_trace.specs.declared.Entry.{Entry}
use Rattle.xcp_locked.specs.declared.publisher.Publisher.{Publisher}
use Rattle.xcp_locked.specs.Journal.{entry, exchanges}
use Rattle.xcp_locked.specs.LockedSlave.{IsReached}
use Rattle.xcp_locked.specs.Publications.{Publication, publication, image_of, images_of, Published}
use Rattle.xcp_locked.specs.PublishingCalls.{AreAllImages, AreImages}
use Rattle.xcp_locked.specs.private.OfferedImages.{IsOfferKept, Offers}
use Rattle.xcp_locked.proofs.JournalLemmas.{exchanges_snoc}
use Rattle.xcp_locked.proofs.PublicationLemmas.{exchanges_length, published_first, published_other, published_same}
use Rattle.xcp_locked.proofs.PublicationLaws.{published_end}
use Rattle.xcp_locked.proofs.SettledReaderLemmas.{images_length, places_length}

-- one run behind another
pub run_joined : (v m w : SlaveValue) (xs ys : List Exchange) → Run v xs m → Run m ys w → Run v (xs ++ ys) w
run_joined v m w [] ys r s = subst (λ (z : SlaveValue). Run z ys w) r s
run_joined v m w (x ∷ xs) ys r s = (r.0, r.1, run_joined r.0 m w xs ys r.2 s)

-- nothing leads to the opening
pub reached_first : (l : LayoutValue) (v : SlaveValue) → v ≡ opening l → IsReached l 0 v
reached_first l v is = record { past = []; count = refl; run = is }

-- a chapter's calls lead on
pub reached_on : (l : LayoutValue) (n : ℕ) (base w : SlaveValue) (es : List Entry) → IsReached l n base → Run base (exchanges es) w → IsReached l (n + length es) w
reached_on l n base w es r s = record {
  past = r.past ++ exchanges es;
  count = length-append r.past (exchanges es) ∙ ((λ i. r.count i + length (exchanges es)) ∙ ap (λ (k : ℕ). n + k) (exchanges_length es));
  run = run_joined (opening l) base w r.past (exchanges es) r.run s;
}

-- the base has the layout of the opening
pub reached_layout : (l : LayoutValue) (n : ℕ) (v : SlaveValue) → IsReached l n v → layout_of v ≡ l
reached_layout l n v r = run-layout (opening l) r.past v r.run

-- the chapter's first image is the newest one of the chapter before
pub record Turned (p q : Publisher) : Type 0 where
  pub writer : q.writer ≡ p.writer
  pub first : q.first ≡ p.first + vec_len p.places - 1
  pub places : q.places.items ≡ 0 ∷ []
  pub last : q.last.items ≡ p.last.items

-- what a publisher keeps of a chapter that ends, it keeps of the next one, without a call yet, once it is turned to that
pub kept_cut : {size : ℕ} (bank : BankId) (v w base : SlaveValue) (xs : List Exchange) (none : List Entry) (p q : Publisher) → Run v xs w → IsOfferKept size bank v xs w p → Turned p q → none ≡ [] → w ≡ base → IsOfferKept size bank base (exchanges none) w q
kept_cut {size} bank v w base xs none p q run k t empty is =
    let e = published_end v xs w k.list k.published run in
    let list : images_of k.list ≡ images_of e.0 ++ image_of w ∷ [] = ap images_of e.2 ∙ map-append (λ (z : Publication). z.image) e.0 (publication e.1 (image_of w) ∷ []) in
    let long : length k.list ≡ length e.0 + 1 = ap length e.2 ∙ length-append e.0 (publication e.1 (image_of w) ∷ []) in
    let places : length p.places.items ≡ length k.list = ap length k.places ∙ places_length k.list in
    let fronts = k.fronts in
    let first = t.first in
    let room : length p.places.items ≡ vec_len p.places = sym p.places.ok.0 in
    let both : length (k.front ++ images_of e.0) ≡ length k.front + length e.0 = length-append k.front (images_of e.0) ∙ ap (λ (n : ℕ). length k.front + n) (images_length e.0) in
    record {
      list = publication 0 (image_of w) ∷ [];
      published = subst (λ (z : SlaveValue). Published z (exchanges none) (publication 0 (image_of w) ∷ [])) is (subst (λ (z : List Entry). Published w (exchanges z) (publication 0 (image_of w) ∷ [])) (sym empty) (published_first w));
      front = k.front ++ images_of e.0;
      fronts = both ∙ omega (arith, long, places, fronts, first, room);
      images = ap (λ z. z.publications) t.writer ∙ (k.images ∙ (ap (λ z. k.front ++ z) list ∙ sym (append_assoc k.front (images_of e.0) (image_of w ∷ []))));
      places = t.places;
      few = omega arith;
      last = t.last ∙ k.last;
      newest = ap newest t.writer ∙ (k.newest ∙ sym t.last);
      named = ap (λ z. z.bank) t.writer ∙ k.named;
      sized = k.sized;
    }

-- a chapter publishes at most as often as it has calls
pub few_more : {size : ℕ} (bank : BankId) (v w : SlaveValue) (es : List Entry) (p : Publisher) (before : ℕ) → IsOfferKept size bank v (exchanges es) w p → p.first ≤ before → p.first + vec_len p.places - 1 ≤ before + length es
few_more {size} bank v w es p before k low =
    let places : length p.places.items ≡ length k.list = ap length k.places ∙ places_length k.list in
    let room : length p.places.items ≡ vec_len p.places = sym p.places.ok.0 in
    let few = k.few in
    let l = exchanges_length es in
    omega (arith, places, few, l, low, room)

-- a call publishes the image behind it where that differs from the one before it
pub images_on : (v : SlaveValue) (xs : List Exchange) (w : SlaveValue) (x : Exchange) (u : SlaveValue) (images more : List (List ℕ)) → Run v xs w → Answers w x.request x.answer u
    → ((image_of u ≡ image_of w) × (more ≡ images)) ⊎ ((image_of u ≢ image_of w) × (more ≡ images ++ image_of u ∷ [])) → AreImages v xs images → AreImages v (xs ++ x ∷ []) more
images_on v xs w x u images more r a (inl s) h = (h.0, published_same v xs w x u h.0 r a s.0 h.1, s.1 ∙ h.2)
images_on v xs w x u images more r a (inr s) h =
    let place = length xs + 1 in
    (h.0 ++ publication place (image_of u) ∷ [], published_other v xs w x u place h.0 r a refl s.0 h.1, s.1 ∙ (ap (λ z. z ++ image_of u ∷ []) h.2 ∙ sym (map-append (λ (z : Publication). z.image) h.0 (publication place (image_of u) ∷ []))))

-- of all calls since the opening, one more publishes the image behind it where that differs from the one before it
pub all_on : (l : LayoutValue) (n : ℕ) (base w : SlaveValue) (xs : List Exchange) (x : Exchange) (u : SlaveValue) (images more : List (List ℕ)) → Run base xs w → Answers w x.request x.answer u
    → ((image_of u ≡ image_of w) × (more ≡ images)) ⊎ ((image_of u ≢ image_of w) × (more ≡ images ++ image_of u ∷ [])) → AreAllImages l n base xs images → AreAllImages l n base (xs ++ x ∷ []) more
all_on l n base w xs x u images more r a is h = record {
  past = h.past;
  count = h.count;
  run = h.run;
  published = subst (λ ys. AreImages (opening l) ys more) (append_assoc h.past xs (x ∷ [])) (images_on (opening l) (h.past ++ xs) w x u images more (run_joined (opening l) base w h.past xs h.run r) a is h.published);
}

-- the same, of a journal that is said to be one call longer, where the image was offered
pub all_goes_on : (l : LayoutValue) (n : ℕ) (base : SlaveValue) (es more : List Entry) (w : SlaveValue) (by : ℕ) (q : Request) (a : Answer) (u : SlaveValue) (place : ℕ) (old mid new : Publisher) → more ≡ es ++ entry by q a ∷ [] → Run base (exchanges es) w → Answers w q a u
    → mid.writer ≡ old.writer → mid.last.items ≡ old.last.items → old.last.items ≡ image_of w → Offers place (image_of u) mid new → AreAllImages l n base (exchanges es) old.writer.publications → AreAllImages l n base (exchanges more) new.writer.publications
all_goes_on l n base es more w by q a u place old mid new is run step writer last before o h =
    let were = ap (λ z. z.publications) writer in
    let at : mid.last.items ≡ image_of w = last ∙ before in
    subst (λ xs. AreAllImages l n base xs new.writer.publications) (sym (ap exchanges is ∙ exchanges_snoc es (entry by q a)))
    (all_on l n base w (exchanges es) (record { request = q; answer = a }) u old.writer.publications new.writer.publications run step
    (elim o.outcome [
      | inl s ↦ inl (s.0 ∙ at, s.1 ∙ were)
      | inr s ↦ inr ((λ same. s.0 (same ∙ sym at)), s.1 ∙ ap (λ z. z ++ image_of u ∷ []) were)
    ]) h)

-- nothing was called yet: the opening's image is published
pub all_first : (l : LayoutValue) (v : SlaveValue) (es : List Entry) (images : List (List ℕ)) → v ≡ opening l → es ≡ [] → images ≡ image_of (opening l) ∷ [] → AreAllImages l 0 v (exchanges es) images
all_first l v es images is none one = record {
  past = [];
  count = refl;
  run = is;
  published = subst (λ (z : List Entry). AreImages (opening l) (exchanges z) images) (sym none) (publication 0 (image_of (opening l)) ∷ [], published_first (opening l), one);
}

-- a cut publishes nothing
pub all_cut : (l : LayoutValue) (n m : ℕ) (v w base : SlaveValue) (es none : List Entry) (images were : List (List ℕ)) → Run v (exchanges es) w → m ≡ n + length es → none ≡ [] → w ≡ base → images ≡ were → AreAllImages l n v (exchanges es) were → AreAllImages l m base (exchanges none) images
all_cut l n m v w base es none images were run count empty is same h = record {
  past = h.past ++ exchanges es;
  count = length-append h.past (exchanges es) ∙ ((λ i. h.count i + length (exchanges es)) ∙ (ap (λ (k : ℕ). n + k) (exchanges_length es) ∙ sym count));
  run = subst (λ (z : SlaveValue). Run (opening l) (h.past ++ exchanges es) z) is (run_joined (opening l) v w h.past (exchanges es) h.run run);
  published = subst (λ (z : List Entry). AreImages (opening l) ((h.past ++ exchanges es) ++ exchanges z) images) (sym empty) (subst (λ xs. AreImages (opening l) xs images) (sym (append-nil (h.past ++ exchanges es))) (h.published.0, h.published.1, same ∙ h.published.2));
}
