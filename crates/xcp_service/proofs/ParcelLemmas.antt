-- What goes to a keeper by its post.
use Rattle.std.proofs.Common.{◌≡◌, ◌+◌, ℕ, zero, suc, Bool, true, false, List, [], ◌∷◌, ◌++◌, ◌==◌, false-eqb, if◌then◌else◌, refl, sym, ap, ap₂, ◌∙◌, subst, append_assoc, length, length-append, arith}
use Rattle.std.proofs.lemmas.List.{append-nil}
use Rattle.std.specs.List.{AllByRecursion}
use Rattle.relay.specs.Ends.{items_of}
use Rattle.xcp_memory.specs.Layout.{LayoutValue}
use Rattle.xcp_scribe.specs.Given.{Given}
use Rattle.xcp_locked.specs.Caller.{CallerValue, callers_of, fresh_caller}
use Rattle.xcp_locked.specs.LockedSlave.{ChapterValue}
use Rattle.xcp_locked.specs.Sheaves.{SheafValue}
use Rattle.xcp_locked.specs.declared.receipt.Receipt.{Receipt}
use Rattle.xcp_service.specs.Keeping.{KeeperValue, receipts_by}
use Rattle.xcp_service.specs.Parcels.{AreNumbered, HasAllReceipts, ParcelValue, chapters_put, given_in, parcel_of_chapter, receipts_put}
use Rattle.xcp_service.specs.Sheaves.{receipts_in}
use Rattle.xcp_service.specs.private.Collected.{IsCollected, IsOfItsCaller, IsOfItsDesk, chapters_taken, sheaves_taken}
use Rattle.xcp_service.proofs.KeepingLemmas.{all_more}

-- one more that was taken
pub chapters_more : (xs : List (ℕ × ParcelValue)) (x : ℕ × ParcelValue) → chapters_taken (xs ++ x ∷ []) ≡ chapters_taken xs ++ x.1.chapters
chapters_more [] x = append-nil x.1.chapters
chapters_more (y ∷ xs) x = ap (λ (l : List ChapterValue). y.1.chapters ++ l) (chapters_more xs x) ∙ sym (append_assoc y.1.chapters (chapters_taken xs) x.1.chapters)

-- and its sheaves stand behind those that were taken before
pub sheaves_more : (xs : List (ℕ × ParcelValue)) (x : ℕ × ParcelValue) → sheaves_taken (xs ++ x ∷ []) ≡ sheaves_taken xs ++ x.1.sheaves
sheaves_more [] x = append-nil x.1.sheaves
sheaves_more (y ∷ xs) x = ap (λ (l : List SheafValue). y.1.sheaves ++ l) (sheaves_more xs x) ∙ sym (append_assoc y.1.sheaves (sheaves_taken xs) x.1.sheaves)

-- what is given of two lists of chapters
pub given_append : (cs ds : List ChapterValue) → given_in (cs ++ ds) ≡ given_in cs ++ given_in ds
given_append [] ds = refl
given_append (c ∷ cs) ds = ap (λ (l : List Given). record { calls = c.entries; last = c.last } ∷ l) (given_append cs ds)

-- what a keeper took is collected, where it took one more
pub collected_more : (desk : ℕ) (k l : KeeperValue) (taken more : List (ℕ × ParcelValue)) (x : ℕ × ParcelValue) → IsCollected desk k taken → more ≡ taken ++ x ∷ [] → l.chapters ≡ k.chapters ++ x.1.chapters
    → l.sheaves ≡ k.sheaves ++ x.1.sheaves → IsOfItsCaller x → IsOfItsDesk desk x → IsCollected desk l more
collected_more desk k l taken more x h is chapters sheaves own only = subst (λ (m : List (ℕ × ParcelValue)). IsCollected desk l m) (sym is) (record {
  chapters = chapters ∙ ap (λ (c : List ChapterValue). c ++ x.1.chapters) h.chapters ∙ sym (chapters_more taken x);
  sheaves = sheaves ∙ ap (λ (s : List SheafValue). s ++ x.1.sheaves) h.sheaves ∙ sym (sheaves_more taken x);
  callers = all_more IsOfItsCaller taken x h.callers own;
  only = all_more (IsOfItsDesk desk) taken x h.only only;
})

-- what was taken of the desk are all chapters that were taken
pub chapters_of_desk : (desk : ℕ) (taken : List (ℕ × ParcelValue)) → AllByRecursion (IsOfItsDesk desk) taken → chapters_taken taken ≡ chapters_put (items_of desk taken)
chapters_of_desk desk [] h = refl
chapters_of_desk desk (x ∷ xs) h = go (x.0 == desk) refl (chapters_of_desk desk xs h.1)
  where
    go : (b : Bool) → (x.0 == desk) ≡ b → chapters_taken xs ≡ chapters_put (items_of desk xs) → x.1.chapters ++ chapters_taken xs ≡ chapters_put (if b then x.1 ∷ items_of desk xs else items_of desk xs)
    go true e rest = ap (λ (l : List ChapterValue). x.1.chapters ++ l) rest
    go false e rest = ap (λ (l : List ChapterValue). l ++ chapters_taken xs) (h.0 (false-eqb x.0 desk (sym e))) ∙ rest

-- one more chapter that was put
pub chapter_put_more : (ps : List ParcelValue) (c : ChapterValue) → chapters_put (ps ++ parcel_of_chapter c ∷ []) ≡ chapters_put ps ++ c ∷ []
chapter_put_more [] c = refl
chapter_put_more (p ∷ ps) c = ap (λ (l : List ChapterValue). p.chapters ++ l) (chapter_put_more ps c) ∙ sym (append_assoc p.chapters (chapters_put ps) (c ∷ []))

-- the receipts of one caller's sheaves, of two lists
by_append : (caller : ℕ) (ss ts : List SheafValue) → receipts_by caller (ss ++ ts) ≡ receipts_by caller ss ++ receipts_by caller ts
by_append caller [] ts = refl
by_append caller (s ∷ ss) ts = go (s.caller == caller) (by_append caller ss ts)
  where
    go : (b : Bool) → receipts_by caller (ss ++ ts) ≡ receipts_by caller ss ++ receipts_by caller ts
        → (if b then s.receipts ++ receipts_by caller (ss ++ ts) else receipts_by caller (ss ++ ts)) ≡ (if b then s.receipts ++ receipts_by caller ss else receipts_by caller ss) ++ receipts_by caller ts
    go true h = ap (λ (l : List Receipt). s.receipts ++ l) h ∙ sym (append_assoc s.receipts (receipts_by caller ss) (receipts_by caller ts))
    go false h = h

-- of a parcel whose sheaves are all of one caller
by_same : (caller number : ℕ) (ss : List SheafValue) (b : Bool) → (number == caller) ≡ b → AllByRecursion (λ (s : SheafValue). s.caller ≡ number) ss → receipts_by caller ss ≡ (if b then receipts_in ss else [])
by_same caller number [] true e h = refl
by_same caller number [] false e h = refl
by_same caller number (s ∷ ss) true e h =
    ap (λ (c : Bool). if c then s.receipts ++ receipts_by caller ss else receipts_by caller ss) (ap (λ (n : ℕ). n == caller) h.0 ∙ e)
    ∙ ap (λ (l : List Receipt). s.receipts ++ l) (by_same caller number ss true e h.1)
by_same caller number (s ∷ ss) false e h =
    ap (λ (c : Bool). if c then s.receipts ++ receipts_by caller ss else receipts_by caller ss) (ap (λ (n : ℕ). n == caller) h.0 ∙ e)
    ∙ by_same caller number ss false e h.1

-- the receipts of a caller's sheaves are what came under its number
pub by_number : (caller : ℕ) (taken : List (ℕ × ParcelValue)) → AllByRecursion IsOfItsCaller taken → receipts_by caller (sheaves_taken taken) ≡ receipts_put (items_of caller taken)
by_number caller [] h = refl
by_number caller (x ∷ xs) h =
    by_append caller x.1.sheaves (sheaves_taken xs)
    ∙ ap₂ (λ (l m : List Receipt). l ++ m) (by_same caller x.0 x.1.sheaves (x.0 == caller) refl h.0) (by_number caller xs h.1)
    ∙ go (x.0 == caller)
  where
    go : (b : Bool) → (if b then receipts_in x.1.sheaves else []) ++ receipts_put (items_of caller xs) ≡ receipts_put (if b then x.1 ∷ items_of caller xs else items_of caller xs)
    go true = refl
    go false = refl

-- one more that a caller put
pub put_more : (ps : List ParcelValue) (p : ParcelValue) → receipts_put (ps ++ p ∷ []) ≡ receipts_put ps ++ receipts_in p.sheaves
put_more [] p = append-nil (receipts_in p.sheaves)
put_more (q ∷ ps) p = ap (λ (l : List Receipt). receipts_in q.sheaves ++ l) (put_more ps p) ∙ sym (append_assoc (receipts_in q.sheaves) (receipts_put ps) (receipts_in p.sheaves))

-- a caller with what it put
abbrev pub with_put : CallerValue → List ParcelValue → CallerValue
with_put c ps = record { number = c.number; events = c.events; signals = c.signals; receipts = receipts_put ps ++ c.receipts; accepted = c.accepted }

-- one more behind those that are numbered
pub numbered_more : (k : ℕ) (cs : List CallerValue) (c : CallerValue) → AreNumbered k cs → c.number ≡ k + length cs → AreNumbered k (cs ++ c ∷ [])
numbered_more k [] c h e = (omega (arith, e), tt)
numbered_more k (d ∷ cs) c h e = (h.0, numbered_more (k + 1) cs c h.1 (omega (arith, e)))

-- each has the number of its place
pub numbered_at : (k : ℕ) (cs : List CallerValue) (c : CallerValue) (ds : List CallerValue) → AreNumbered k (cs ++ c ∷ ds) → c.number ≡ k + length cs
numbered_at k [] c ds h = let is = h.0 in omega (arith, is)
numbered_at k (b ∷ cs) c ds h = let is = numbered_at (k + 1) cs c ds h.1 in omega (arith, is)

-- the callers of an opening are as many as were asked for
pub length-callers_of : (l : LayoutValue) (n : ℕ) → length (callers_of l n) ≡ n
length-callers_of l zero = refl
length-callers_of l (suc n) = let e = length-callers_of l n in let m = length-append (callers_of l n) (fresh_caller l n ∷ []) in omega (arith, e, m)

-- the callers of an opening are numbered
pub numbered_callers : (l : LayoutValue) (n : ℕ) → AreNumbered 0 (callers_of l n)
numbered_callers l zero = tt
numbered_callers l (suc n) = numbered_more 0 (callers_of l n) (fresh_caller l n) (numbered_callers l n) (let e = length-callers_of l n in omega (arith, e))

-- and have no receipts, as they have made no calls
pub counted_callers : (l : LayoutValue) (n : ℕ) → AllByRecursion HasAllReceipts (callers_of l n)
counted_callers l zero = tt
counted_callers l (suc n) = all_more HasAllReceipts (callers_of l n) (fresh_caller l n) (counted_callers l n) refl
