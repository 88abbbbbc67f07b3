-- What readers of tasks do, cycle by cycle.
use Rattle.std.proofs.Common.{◌≡◌, ℕ, zero, suc, ◌+◌, ◌-◌, ◌<◌, ◌≤◌, Bool, true, false, true≢false, List, [], ◌∷◌, ◌++◌, length, take, drop, refl, sym, ap, ◌∙◌, subst, append-nil, append_assoc, length-append, cond, ⊎_elim, inl, inr, arith}
use Rattle.std.proofs.lemmas.List.{take_all}
use Rattle.std.proofs.lemmas.List.Sums.{sum_by-append}
use Rattle.std.specs.Prelude.{Option, Some, None, slice_index}
use Rattle.xcp_bank.specs.PinHistory.{Deed, Does, has_read, reads_of}
use Rattle.xcp_bank.specs.BankEnds.{AcquireDoes, Holds, HoldsNumber, ReadDoes, ReaderEnd, image_at, image_held}
use mathlib.Core.List.{IsPrefix}
use Rattle.xcp_bank.specs.SeatKnowledge.{AllBegin}
use Rattle.xcp_bank.specs.declared.taken.Taken.{Taken}
use Rattle.xcp_bank.specs.declared.taken.Taken.TheVariants.{Same, Newer}
use Rattle.xcp_bank.proofs.PrefixLemmas.{begins_again}
use Rattle.xcp_bank.proofs.HistoryLemmas.{does_again, does_none}
use Rattle.xcp_memory.specs.Layout.{LayoutValue}
use Rattle.xcp_slave.specs.declared.Request.{Request}
use Rattle.xcp_locked.specs.declared.receipt.Receipt.{Receipt}
use Rattle.xcp_locked.specs.TaskImages.{IsTold, Took, is_look, looks, TookImage}
use Rattle.xcp_locked.specs.Tasks.{Duty, IsFresh, closing_of, cycle_event}
use Rattle.xcp_locked.specs.private.TaskSteps.{Adds}
use Rattle.xcp_locked.proofs.TallyLemmas.{none≢some, some_same}

-- looks of two rows of steps
pub looks_both : (xs ys : List Deed) → looks (xs ++ ys) ≡ looks xs + looks ys
looks_both xs ys = sum_by-append (λ (d : Deed). cond (is_look d.0) 1 0) xs ys

same_number : (x : ReaderEnd) (p q : ℕ) → HoldsNumber x p → HoldsNumber x q → p ≡ q
same_number x p q g h = ap (λ (z : ℕ × ℕ). z.1) (some_same (g.0, p) (h.0, q) (sym g.1 ∙ h.1))

has_number : (o : Option (ℕ × ℕ)) → ¬ (o ≡ None) → (r : ℕ) × (b : ℕ) × (o ≡ Some (b, r))
has_number None h = absurd (h refl)
has_number (Some k) h = (k.1, k.0, refl)

holds_number : (x : ReaderEnd) (p : ℕ) → HoldsNumber x p → Holds x
holds_number x p h e = none≢some _ (sym e ∙ h.1)

-- nothing was done
pub took_nothing : (n : ℕ) (whole : Bool) (a : ReaderEnd) (x : List ℕ) → (whole ≡ true → n ≡ 0) → Took n whole a a x x
took_nothing n whole a x none = record {
  same_reader = (refl, refl);
  deeds = [];
  did = does_none (suc a.index) a.history a.pending;
  looked = λ t. let e = none t in omega (arith, e);
  seen = ([], append-nil a.seen);
  holds = λ h. h;
  rises = λ p q g h. let e = same_number a p q g h in omega (arith, e);
  last = inl (refl, refl);
  taken = λ t low. let e = none t in absurd (omega (arith, e, low));
}

-- one cycle more
pub took_more : (n : ℕ) (whole : Bool) (a b c : ReaderEnd) (x y z : List ℕ) → Took n true a b x y → Took 1 whole b c y z → Took (n + 1) whole a c x z
took_more n whole a b c x y z g h =
    let did : Does (suc a.index) b.history b.pending c.history c.pending h.deeds = subst (λ k. Does (suc k) b.history b.pending c.history c.pending h.deeds) g.same_reader.1 h.did in record {
      same_reader = (h.same_reader.0 ∙ g.same_reader.0, h.same_reader.1 ∙ g.same_reader.1);
      deeds = g.deeds ++ h.deeds;
      did = does_again (suc a.index) a.history a.pending b.history b.pending c.history c.pending g.deeds h.deeds g.did did;
      looked = λ t. let e = looks_both g.deeds h.deeds in let m = g.looked refl in let k = h.looked t in omega (arith, e, m, k);
      seen = begins_again a.seen b.seen c.seen g.seen h.seen;
      holds = λ k. h.holds (g.holds k);
      rises = λ p q old new.
          let r = has_number b.held (g.holds (holds_number a p old)) in
          let up = g.rises p r.0 old (r.1, r.2) in
          let on = h.rises r.0 q (r.1, r.2) new in omega (arith, up, on);
      last = ⊎_elim
          (λ same. ⊎_elim (λ before. inl (same.0 ∙ before.0, same.1 ∙ before.1)) (λ e. inr (same.1 ∙ (e ∙ ap image_held (sym same.0)))) g.last)
          (λ e. inr e) h.last;
      taken = λ t low. h.taken t (omega arith);
    }

-- a cycle in which the image was taken, however it ended
pub took_it : (whole : Bool) (a b : ReaderEnd) (x y : List ℕ) → Took 1 true a b x y → Took 1 whole a b x y
took_it whole a b x y h = record { same_reader = h.same_reader; deeds = h.deeds; did = h.did; looked = λ t. h.looked refl; seen = h.seen; holds = h.holds; rises = h.rises; last = h.last; taken = λ t. h.taken refl }

-- a task that did not do its whole work
pub took_less : (n m : ℕ) (a b : ReaderEnd) (x y : List ℕ) → Took n false a b x y → Took m false a b x y
took_less n m a b x y h = record {
  same_reader = h.same_reader;
  deeds = h.deeds;
  did = h.did;
  looked = λ t. absurd (true≢false (sym t));
  seen = h.seen;
  holds = h.holds;
  rises = h.rises;
  last = h.last;
  taken = λ t. absurd (true≢false (sym t));
}

-- an acquire looks once at least
pub acquire_looks : (t : Taken) (a b : ReaderEnd) (h : AcquireDoes t a b) → 1 ≤ looks h.deeds
acquire_looks Same a b h = let e : looks h.deeds ≡ 1 = ap looks (h.once refl).0 in omega (arith, e)
acquire_looks Newer a b h = by_held a.held refl
  where
    by_held : (o : Option (ℕ × ℕ)) → a.held ≡ o → 1 ≤ looks h.deeds
    by_held None is = let e : looks h.deeds ≡ 1 = ap looks (h.first is) in omega (arith, e)
    by_held (Some k) is = let e : looks h.deeds ≡ 2 = ap looks (h.other refl k.0 k.1 is).2 in omega (arith, e)

-- reads look at nothing
pub reads_look_at_nothing : (r : ℕ) (words : List ℕ) (k n : ℕ) → looks (reads_of r words k n) ≡ 0
reads_look_at_nothing r words k zero = refl
reads_look_at_nothing r words k (suc n) =
    let e = looks_both (reads_of r words k n) (has_read r (k + n) (slice_index words (k + n)) ∷ []) in
    let f = reads_look_at_nothing r words k n in
    omega (arith, e, f)

-- the current image is taken, and all of it is read
pub took_image : (t : Taken) (a b c : ReaderEnd) (y : List ℕ) (k n size most : ℕ) → size ≡ most → (b.bank ≡ a.bank) × (b.index ≡ a.index) → AcquireDoes t a b → ((p q : ℕ) → HoldsNumber a p → HoldsNumber b q → p ≤ q)
    → ReadDoes k n b c → (c.bank ≡ b.bank) × (c.index ≡ b.index) → (c.held ≡ b.held) × (c.seen ≡ b.seen) → length (image_held b) ≡ most → y ≡ take size (drop 0 (image_held b)) → TookImage a c y
took_image t a b c y k n size most all reader acquires rises reads again same whole bytes =
    let more = reads_of b.index reads.words k n in
    let did : Does (suc a.index) b.history b.pending c.history c.pending more = subst (λ j. Does (suc j) b.history b.pending c.history c.pending more) reader.1 reads.did in
    let image : image_held b ≡ image_held c = (λ i. image_at (sym same.0 i) (sym same.1 i)) in
    record {
      same_reader = (again.0 ∙ reader.0, again.1 ∙ reader.1);
      deeds = acquires.deeds ++ more;
      did = does_again (suc a.index) a.history a.pending b.history b.pending c.history c.pending acquires.deeds more acquires.did did;
      looked = let one = acquire_looks t a b acquires in let e = looks_both acquires.deeds more in omega (arith, one, e);
      holds = λ e. none≢some _ (sym e ∙ (same.0 ∙ acquires.held));
      rises = λ p q old new. rises p q old (new.0, sym same.0 ∙ new.1);
      read = bytes ∙ (take_all size (image_held b) (omega (arith, whole, all)) ∙ image);
    }

-- what was taken is the newest of what was published when the reader was told
pub newest : (a b c : ReaderEnd) (number : ℕ) → IsPrefix a.seen b.seen → 0 < length b.seen → HoldsNumber b (length b.seen - 1) → c.held ≡ b.held → HoldsNumber c number → length a.seen ≤ number + 1
newest a b c number seen some last held holds =
    let same = same_number b number (length b.seen - 1) (holds.0, sym held ∙ holds.1) last in
    let longer = sym (ap length seen.1) ∙ length-append a.seen seen.0 in
    omega (arith, same, longer, some)

-- one cycle: a reader is told, and takes the current image
pub took_told : (layout : LayoutValue) (caller : ℕ) (event : Request) (old new : List Receipt) (a b c : ReaderEnd) (x y : List ℕ) → IsTold layout caller event old new a b → AllBegin (b.seen ∷ b.past) c.seen → TookImage b c y → Took 1 true a c x y
took_told layout caller event old new a b c x y told begins took =
    let did : Does (suc a.index) b.history b.pending c.history c.pending took.deeds = subst (λ j. Does (suc j) b.history b.pending c.history c.pending took.deeds) told.same_reader.1 took.did in
    let all : AllBegin (a.seen ∷ a.past) c.seen = subst (λ s. AllBegin s c.seen) told.past begins.1 in
    record {
      same_reader = (took.same_reader.0 ∙ told.same_reader.0, took.same_reader.1 ∙ told.same_reader.1);
      deeds = told.deeds ++ took.deeds;
      did = does_again (suc a.index) a.history a.pending b.history b.pending c.history c.pending told.deeds took.deeds told.did did;
      looked = λ _. let e = looks_both told.deeds took.deeds in let two = told.twice in let one = took.looked in omega (arith, e, two, one);
      seen = all.0;
      holds = λ _. took.holds;
      rises = λ p q before after. took.rises p q (before.0, told.held ∙ before.1) after;
      last = inr took.read;
      taken = λ _ _. took.read;
    }

-- the image that is taken then isn't older than the event
pub is_fresh : (layout : LayoutValue) (p : Duty) (k caller : ℕ) (was mid now : List Receipt) (a b c : ReaderEnd) → IsTold layout caller (cycle_event p k) was mid a b → Adds (closing_of p) mid now → AllBegin (b.seen ∷ b.past) c.seen → ((number : ℕ) → HoldsNumber c number → length b.seen ≤ number + 1) → IsFresh layout p k caller now c
is_fresh layout p k caller was mid now a b c told closing begins newest = record {
  front = was;
  event = told.call;
  closing = closing.0;
  joined = closing.2 ∙ (ap (λ z. z ++ closing.0) told.added ∙ append_assoc was (told.call ∷ []) closing.0);
  asked = told.asked;
  closed = closing.1;
  image = record { before = told.calls; base = told.base; reached = told.reached; earlier = told.earlier; place = told.place; first = told.first; published = b.seen; images = told.images; all_images = told.all_images; seen = begins.0; holds = newest };
}
