-- What a cycle of a task comes to.
use Rattle.std.proofs.Common.{◌≡◌, ◌+◌, ◌≤◌, ◌%◌, ℕ, Bool, true, false, true≢false, List, [], ◌∷◌, length, sym, subst, inr}
use Rattle.std.specs.Prelude.{◌⊎◌, MatchBool}
use Rattle.xcp_memory.specs.Layout.{LayoutValue}
use Rattle.xcp_slave.specs.declared.Request.{Request}
use Rattle.xcp_slave.specs.declared.Request.TheVariants as requests
use Rattle.xcp_bank.specs.BankEnds.{HoldsNumber, ReaderEnd}
use Rattle.xcp_bank.specs.SeatKnowledge.{AllBegin}
use Rattle.xcp_locked.specs.TaskImages.{IsTold, Took, TookImage}
use Rattle.xcp_locked.specs.Tasks.{Duty, closing_of, cycle_event, receipt_requests}
use Rattle.xcp_locked.specs.declared.receipt.Receipt.{Receipt}
use Rattle.xcp_locked.proofs.TaskImageLaws.{took_told}
use Rattle.xcp_seats.specs.Ticking.{Raised}

-- an event that was accepted was raised: the image that is taken then isn't older
pub raised_of : (layout : LayoutValue) (p : Duty) (k caller : ℕ) (old mid : List Receipt) (a b c : ReaderEnd) (accepted : Bool) → MatchBool accepted (IsTold layout caller (cycle_event p (k % 256)) old mid a b) ((mid ≡ old) × (b ≡ a))
    → AllBegin (b.seen ∷ b.past) c.seen → ((number : ℕ) → HoldsNumber c number → length b.seen ≤ number + 1) → MatchBool accepted (Raised layout p k caller old mid c) (mid ≡ old)
raised_of layout p k caller old mid a b c false told begins newest = told.0
raised_of layout p k caller old mid a b c true told begins newest = record {
  call = told.call;
  added = told.added;
  asked = told.asked;
  image = record { before = told.calls; base = told.base; reached = told.reached; earlier = told.earlier; place = told.place; first = told.first; published = b.seen; images = told.images; all_images = told.all_images; seen = begins.0; holds = newest };
}

-- and an image was taken, whether an event was accepted or not
pub took_of : (layout : LayoutValue) (event : Request) (caller : ℕ) (old mid : List Receipt) (a b c : ReaderEnd) (x y : List ℕ) (accepted : Bool) → MatchBool accepted (IsTold layout caller event old mid a b) ((mid ≡ old) × (b ≡ a))
    → AllBegin (b.seen ∷ b.past) c.seen → TookImage b c y → Took 1 accepted a c x y
took_of layout event caller old mid a b c x y true told begins took = took_told layout caller event old mid a b c x y told begins took
took_of layout event caller old mid a b c x y false told begins took = subst (λ (r : ReaderEnd). Took 1 false r c x y) told.1 (record {
  same_reader = took.same_reader;
  deeds = took.deeds;
  did = took.did;
  looked = λ e. absurd (true≢false (sym e));
  seen = begins.0;
  holds = λ _. took.holds;
  rises = took.rises;
  last = inr took.read;
  taken = λ e. absurd (true≢false (sym e));
})

-- what task 0 submits behind its event is its closing
pub closes_as : (p : Duty) (stored : List Receipt) → p.task ≡ 0 → ((stored ≡ []) ⊎ (receipt_requests stored ≡ requests.FinishStore ∷ [])) → (stored ≡ []) ⊎ (receipt_requests stored ≡ closing_of p)
closes_as p stored first h = rw first h
