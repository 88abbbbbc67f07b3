-- What a sheaf has of the chapters that wait for it.
use Rattle.std.proofs.Common.{◌≡◌, ◌≤◌, ◌<◌, ◌+◌, ◌||◌, ◌&&◌, inl, inr, not, ℕ, zero, suc, Bool, true, false, List, [], ◌∷◌, ◌++◌, ◌==◌, refl, sym, ap, ap₂, ◌∙◌, subst, length, take, get_or, arith, true≢false}
use Rattle.std.specs.List.{AllByRecursion}
use Rattle.std.specs.Prelude.{nat_lt}
use Rattle.std.proofs.lemmas.List.Folds.{list_any-append}
use Rattle.xcp_locked.specs.SettledReceipts.{among, receipts_for, tally}
use Rattle.xcp_locked.specs.Sheaves.{SheafValue}
use Rattle.xcp_service.specs.Keeping.{is_chapter_among}
use Rattle.xcp_service.specs.private.Waiting.{AreApart, FitsDue, FitsAll, IsCountedFor, WaitingValue, calls_in_chapter, chapters_in, has_due, is_due}
use Rattle.xcp_service.proofs.AmongLemmas.{among_all, among_few, among_more, among_none, among_same, either_false, other_way, differ_from}
use Rattle.xcp_service.proofs.KeepingLemmas.{all_more, not_due, take_all, take_step}

-- those before one have other numbers
apart_before : (ws : List WaitingValue) (k : ℕ) (d : WaitingValue) → AreApart ws → k < length ws → is_chapter_among (get_or ws k d).chapter.number (chapters_in (take k ws)) ≡ false
apart_before [] k d a low = absurd (omega (arith, low))
apart_before (w ∷ ws) zero d a low = refl
apart_before (w ∷ ws) (suc k) d a low =
    ap₂ (λ (b c : Bool). b || c) (other_way w.chapter.number (get_or ws k d).chapter.number (there ws k (omega (arith, low)) a.0)) (apart_before ws k d a.1 (omega (arith, low)))
  where
    there : (us : List WaitingValue) (k : ℕ) → k < length us → is_chapter_among w.chapter.number (chapters_in us) ≡ false → (w.chapter.number == (get_or us k d).chapter.number) ≡ false
    there [] k low e = absurd (omega (arith, low))
    there (u ∷ us) zero low e = (either_false _ _ e).0
    there (u ∷ us) (suc k) low e = there us k (omega (arith, low)) (either_false _ _ e).1

-- So much of a sheaf was seen with the first k chapters: those that are due fit, and so many receipts are of them.
pub record IsSeen (s : SheafValue) (ws : List WaitingValue) (k settled : ℕ) : Type 0 where
  pub each : AllByRecursion (FitsDue s) (take k ws)
  pub count : settled ≡ length (among (has_due s (take k ws)) s.receipts)

-- before the first chapter nothing was seen
pub seen_none : (s : SheafValue) (ws : List WaitingValue) → IsSeen s ws 0 0
seen_none s ws = record { each = tt; count = sym (ap length (among_none (has_due s []) (λ n. refl) s.receipts)) }

-- one more that isn't due
due_no : (s : SheafValue) (xs : List WaitingValue) (w : WaitingValue) → is_due s w ≡ false → (n : ℕ) → has_due s (xs ++ w ∷ []) n ≡ has_due s xs n
due_no s xs w isnt n =
    list_any-append (λ (v : WaitingValue). is_due s v && (n == v.chapter.number)) xs (w ∷ [])
    ∙ ap (λ (b : Bool). has_due s xs n || ((b && (n == w.chapter.number)) || false)) isnt
    ∙ go (has_due s xs n)
  where
    go : (b : Bool) → (b || ((false && (n == w.chapter.number)) || false)) ≡ b
    go true = refl
    go false = refl

-- one more that is
due_yes : (s : SheafValue) (xs : List WaitingValue) (w : WaitingValue) → is_due s w ≡ true → (n : ℕ) → has_due s (xs ++ w ∷ []) n ≡ (has_due s xs n || (n == w.chapter.number))
due_yes s xs w is_so n =
    list_any-append (λ (v : WaitingValue). is_due s v && (n == v.chapter.number)) xs (w ∷ [])
    ∙ ap (λ (b : Bool). has_due s xs n || ((b && (n == w.chapter.number)) || false)) is_so
    ∙ ap (λ (b : Bool). has_due s xs n || b) (go (n == w.chapter.number))
  where
    go : (b : Bool) → ((true && b) || false) ≡ b
    go true = refl
    go false = refl

-- with a chapter that isn't due no more receipts are seen
pub seen_no : (s : SheafValue) (ws : List WaitingValue) (k settled : ℕ) (d : WaitingValue) → k < length ws → is_due s (get_or ws k d) ≡ false → IsSeen s ws k settled → IsSeen s ws (k + 1) settled
seen_no s ws k settled d low isnt h =
    let w = get_or ws k d in
    let next : suc k ≡ k + 1 = omega arith in
    let step = take_step ws k d low in
    subst (λ (j : ℕ). IsSeen s ws j settled) next (record {
      each = subst (λ (l : List WaitingValue). AllByRecursion (FitsDue s) l) (sym step) (all_more (FitsDue s) (take k ws) w h.each (λ is_so. absurd (true≢false (sym is_so ∙ isnt))));
      count = h.count ∙ ap length (sym (ap (λ (l : List WaitingValue). among (has_due s l) s.receipts) step ∙ among_same (has_due s (take k ws ++ w ∷ [])) (has_due s (take k ws)) (due_no s (take k ws) w isnt) s.receipts));
    })

-- the receipts of one that is due come to those that were seen
pub seen_sum : (s : SheafValue) (ws : List WaitingValue) (k settled more : ℕ) (d : WaitingValue) → AreApart ws → k < length ws → is_due s (get_or ws k d) ≡ true → IsSeen s ws k settled
    → receipts_for false (get_or ws k d).chapter.number s.receipts ≡ tally s.caller (get_or ws k d).chapter.number 0 (get_or ws k d).chapter.entries → more ≡ calls_in_chapter s.caller (get_or ws k d).chapter
    → settled + more ≡ length (among (has_due s (take (suc k) ws)) s.receipts)
seen_sum s ws k settled more d apart low is_so h fits count =
    let w = get_or ws k d in
    let xs = take k ws in
    let step = take_step ws k d low in
    let before : has_due s xs w.chapter.number ≡ false = not_due s xs w.chapter.number (apart_before ws k d apart low) in
    let sum = among_more (has_due s xs) w.chapter.number before s.receipts in
    let same : among (has_due s (take (suc k) ws)) s.receipts ≡ among (λ n. has_due s xs n || (n == w.chapter.number)) s.receipts =
    ap (λ (l : List WaitingValue). among (has_due s l) s.receipts) step ∙ among_same (has_due s (xs ++ w ∷ [])) (λ n. has_due s xs n || (n == w.chapter.number)) (due_yes s xs w is_so) s.receipts in
    let mine : more ≡ length (among (λ n. n == w.chapter.number) s.receipts) = count ∙ sym (ap length fits) in
    let seen = h.count in
    let all = ap length same in
    omega (arith, sum, mine, seen, all)

-- with one that is due, and whose receipts the sheaf has, as many more are seen as its caller has calls there
pub seen_yes : (s : SheafValue) (ws : List WaitingValue) (k settled more : ℕ) (d : WaitingValue) → AreApart ws → k < length ws → is_due s (get_or ws k d) ≡ true → IsSeen s ws k settled
    → receipts_for false (get_or ws k d).chapter.number s.receipts ≡ tally s.caller (get_or ws k d).chapter.number 0 (get_or ws k d).chapter.entries → more ≡ calls_in_chapter s.caller (get_or ws k d).chapter
    → IsSeen s ws (k + 1) (settled + more)
seen_yes s ws k settled more d apart low is_so h fits count =
    let next : suc k ≡ k + 1 = omega arith in
    subst (λ (j : ℕ). IsSeen s ws j (settled + more)) next (record {
      each = subst (λ (l : List WaitingValue). AllByRecursion (FitsDue s) l) (sym (take_step ws k d low)) (all_more (FitsDue s) (take k ws) (get_or ws k d) h.each (λ due. fits));
      count = seen_sum s ws k settled more d apart low is_so h fits count;
    })

-- no more are seen than there are
pub seen_few : (s : SheafValue) (ws : List WaitingValue) (k settled more : ℕ) (d : WaitingValue) → AreApart ws → k < length ws → is_due s (get_or ws k d) ≡ true → IsSeen s ws k settled
    → receipts_for false (get_or ws k d).chapter.number s.receipts ≡ tally s.caller (get_or ws k d).chapter.number 0 (get_or ws k d).chapter.entries → more ≡ calls_in_chapter s.caller (get_or ws k d).chapter
    → settled + more ≤ length s.receipts
seen_few s ws k settled more d apart low is_so h fits count =
    let sum = seen_sum s ws k settled more d apart low is_so h fits count in
    let few = among_few (has_due s (take (suc k) ws)) s.receipts in
    omega (arith, sum, few)

-- where all receipts were seen, the sheaf fits
pub seen_all : (s : SheafValue) (ws : List WaitingValue) (k settled : ℕ) → k ≡ length ws → settled ≡ length s.receipts → IsSeen s ws k settled → FitsAll s ws
seen_all s ws k settled end all h = record {
  each = subst (λ (l : List WaitingValue). AllByRecursion (FitsDue s) l) (take_all ws k end) h.each;
  others = λ n none. among_all (has_due s ws) s.receipts (sym (ap (λ (l : List WaitingValue). length (among (has_due s l) s.receipts)) (take_all ws k end)) ∙ (sym h.count ∙ all)) n none;
}

-- what is wanted where it is due
pub wanted : (s : SheafValue) (ws : List WaitingValue) (k : ℕ) (d : WaitingValue) → k < length ws → AllByRecursion (IsCountedFor s.caller) ws → is_due s (get_or ws k d) ≡ true → get_or (get_or ws k d).owed s.caller 0 ≡ calls_in_chapter s.caller (get_or ws k d).chapter
wanted s [] k d low h due = absurd (omega (arith, low))
wanted s (w ∷ ws) (suc k) d low h due = wanted s ws k d (omega (arith, low)) h.1 due
wanted s (w ∷ ws) zero d low h due = elim (h.0) [
  | inl none ↦ absurd (not_zero (nat_lt w.chapter.number s.until) (get_or w.owed s.caller 0 == 0) refl due none)
  | inr all ↦ all
]
  where
    not_zero : (a b : Bool) → (get_or w.owed s.caller 0 == 0) ≡ b → (a && not b) ≡ true → get_or w.owed s.caller 0 ≡ 0 → ⊥
    not_zero true true is e none = true≢false (sym e)
    not_zero true false is e none = differ_from (get_or w.owed s.caller 0) 0 is none
    not_zero false b is e none = true≢false (sym e)
