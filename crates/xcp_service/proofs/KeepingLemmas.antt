-- What a keeper has settled, step by step.
use Rattle.std.proofs.Common.{◌≡◌, ◌≢◌, ◌⊎◌, inl, inr, ◌≤◌, ◌<◌, ◌||◌, ◌&&◌, not, ℕ, zero, suc, Bool, true, false, List, [], ◌∷◌, ◌++◌, ◌==◌, refl, sym, ap, ap₂, ◌∙◌, subst, cond, length, map, arith, true≢false, eq-eqb, ne_eqb, if◌then◌else◌, get_or, set, take, drop, append_assoc, Some, None}
use Rattle.std.specs.List.{AllByRecursion, filter, list_all, slice_get}
use Rattle.std.specs.Prelude.{nat_lt}
use Rattle.std.proofs.lemmas.List.{append-nil, get_or-set_other}
use Rattle.xcp_locked.specs.LockedSlave.{ChapterValue}
use Rattle.xcp_locked.specs.SettledReceipts.{receipts_for, tally}
use Rattle.xcp_locked.specs.Sheaves.{SheafValue}
use Rattle.xcp_locked.specs.declared.receipt.Receipt.{Receipt}
use Rattle.xcp_service.specs.Keeping.{IsSettledBy, caller_limit, is_chapter_among, receipts_by}
use Rattle.xcp_service.specs.private.Waiting.{AreApart, AreKept, FitsDue, FitsAll, IsCountedFor, IsOwedRight, IsChapterWaiting, WaitingValue, calls_in_chapter, chapters_in, has_due, is_due, settled_mark, owes_nothing}
use Rattle.xcp_service.proofs.AmongLemmas.{among_append, differ_from, either_false, other_way, same_by, same_number}

-- ---- lists

-- a list of length 0 is empty
pub empty_of : (xs : List Receipt) → length xs ≡ 0 → xs ≡ []
empty_of [] e = refl
empty_of (x ∷ xs) e = absurd (omega (arith, e))

-- an element keeps its place where one more is put behind the list
pub get_more : {X : Type 0} (xs : List X) (y : X) (k : ℕ) (x : X) → slice_get xs k ≡ Some x → slice_get (xs ++ y ∷ []) k ≡ Some x
get_more [] y k x e = cc
get_more (z ∷ xs) y zero x e = e
get_more (z ∷ xs) y (suc k) x e = get_more xs y k x e

-- the one that is put behind stands at the place that is the shorter list's length
pub get_end : {X : Type 0} (xs : List X) (y : X) → slice_get (xs ++ y ∷ []) (length xs) ≡ Some y
get_end [] y = refl
get_end (z ∷ xs) y = get_end xs y

-- an element of the longer list is one of the shorter, or the last
pub get_split : {X : Type 0} (xs : List X) (y : X) (k : ℕ) (x : X) → slice_get (xs ++ y ∷ []) k ≡ Some x → (slice_get xs k ≡ Some x) ⊎ ((k ≡ length xs) × (x ≡ y))
get_split [] y zero x e = inr (refl, cc)
get_split [] y (suc k) x e = cc
get_split (z ∷ xs) y zero x e = inl e
get_split (z ∷ xs) y (suc k) x e = elim (get_split xs y k x e) [
  | inl h ↦ inl h
  | inr h ↦ inr (omega (arith, h.0), h.1)
]

-- a place where an element stands is below the length
pub get_low : {X : Type 0} (xs : List X) (k : ℕ) (x : X) → slice_get xs k ≡ Some x → k < length xs
get_low [] k x e = cc
get_low (z ∷ xs) zero x e = omega arith
get_low (z ∷ xs) (suc k) x e = let low = get_low xs k x e in omega (arith, low)

-- two values are the same where their `Some`s are
pub some_same : {X : Type 0} (x y : X) → Some x ≡ Some y → x ≡ y
some_same x y e = cc

-- where all numbers are 0, there is 0 at each place, and past the end
pub all_zero : (xs : List ℕ) → list_all (λ n. n == 0) xs ≡ true → (k : ℕ) → get_or xs k 0 ≡ 0
all_zero [] e k = refl
all_zero (x ∷ xs) e k = go (x == 0) refl (all_zero xs) e k
  where
    go : (b : Bool) → (x == 0) ≡ b → (list_all (λ n. n == 0) xs ≡ true → (k : ℕ) → get_or xs k 0 ≡ 0) → (b && list_all (λ n. n == 0) xs) ≡ true → (k : ℕ) → get_or (x ∷ xs) k 0 ≡ 0
    go true is rest e zero = same_by x 0 is
    go true is rest e (suc k) = rest e k
    go false is rest e k = absurd (true≢false (sym e))

-- where 0 was put there is 0, even past the end
pub zero_there : (xs : List ℕ) (k : ℕ) → get_or (set xs k 0) k 0 ≡ 0
zero_there [] k = refl
zero_there (x ∷ xs) zero = refl
zero_there (x ∷ xs) (suc k) = zero_there xs k

-- what holds of all elements, and of one more, holds of the longer list
pub all_more : {X : Type 0} (P : X → Type 0) (xs : List X) (y : X) → AllByRecursion P xs → P y → AllByRecursion P (xs ++ y ∷ [])
all_more P [] y h p = (p, tt)
all_more P (x ∷ xs) y h p = (h.0, all_more P xs y h.1 p)

-- what follows from something that holds of all elements holds of all, too
pub all_weaker : {X : Type 0} (P Q : X → Type 0) → ((x : X) → P x → Q x) → (xs : List X) → AllByRecursion P xs → AllByRecursion Q xs
all_weaker P Q f [] h = tt
all_weaker P Q f (x ∷ xs) h = (f x h.0, all_weaker P Q f xs h.1)

-- what holds of all holds of those that a filter keeps
pub all_filtered : {X : Type 0} (P : X → Type 0) (p : X → Bool) (xs : List X) → AllByRecursion P xs → AllByRecursion P (filter p xs)
all_filtered P p [] h = tt
all_filtered {X} P p (x ∷ xs) h = go (p x) (all_filtered P p xs h.1)
  where
    go : (b : Bool) → AllByRecursion P (filter p xs) → AllByRecursion P (cond b (x ∷ filter p xs) (filter p xs))
    go true rest = (h.0, rest)
    go false rest = rest

-- where there are more than k elements, the first k + 1 are the first k and the one at place k
pub take_step : {X : Type 0} (l : List X) (k : ℕ) (d : X) → k < length l → take (suc k) l ≡ take k l ++ get_or l k d ∷ []
take_step [] k d h = absurd (omega (arith, h))
take_step (y ∷ ys) zero d h = refl
take_step (y ∷ ys) (suc k) d h = ap (λ (z : List _). y ∷ z) (take_step ys k d (omega (arith, h)))

-- as many as there are, taken from the front, are all
pub take_all : {X : Type 0} (l : List X) (k : ℕ) → k ≡ length l → take k l ≡ l
take_all [] zero e = refl
take_all [] (suc k) e = refl
take_all (y ∷ ys) zero e = absurd (omega (arith, e))
take_all (y ∷ ys) (suc k) e = ap (λ (z : List _). y ∷ z) (take_all ys k (omega (arith, e)))

drop_all : {X : Type 0} (l : List X) → drop (length l) l ≡ []
drop_all [] = refl
drop_all (z ∷ zs) = drop_all zs

-- what is written over all of a vector
pub written : {X : Type 0} (xs ys : List X) (n : ℕ) → length xs ≡ length ys → n ≡ length ys → take n (xs ++ drop (length xs) ys) ≡ xs
written xs ys n same all =
    let none : drop (length xs) ys ≡ [] = ap (λ (k : ℕ). drop k ys) same ∙ drop_all ys in
    ap (λ (l : List _). take n (xs ++ l)) none ∙ (ap (take n) (append-nil xs) ∙ take_all xs n (all ∙ sym same))

-- ---- numbers

-- as many chapters wait where they are marked
pub marked_length : (caller until : ℕ) (ws : List WaitingValue) → length (map (settled_mark caller until) ws) ≡ length ws
marked_length caller until [] = refl
marked_length caller until (w ∷ ws) = ap suc (marked_length caller until ws)

-- the chapters' numbers don't change where they are marked
pub marked_chapters : (caller until : ℕ) (ws : List WaitingValue) → chapters_in (map (settled_mark caller until) ws) ≡ chapters_in ws
marked_chapters caller until [] = refl
marked_chapters caller until (w ∷ ws) = ap₂ (λ (c : ChapterValue) (cs : List ChapterValue). c ∷ cs) (go (nat_lt w.chapter.number until)) (marked_chapters caller until ws)
  where
    go : (b : Bool) → (if b then record w { owed = set w.owed caller 0 } else w).chapter ≡ w.chapter
    go true = refl
    go false = refl

-- a chapter that waits stays the same where it is marked
pub marked_chapter : (caller until : ℕ) (w : WaitingValue) → (settled_mark caller until w).chapter ≡ w.chapter
marked_chapter caller until w = go (nat_lt w.chapter.number until)
  where
    go : (b : Bool) → (if b then record w { owed = set w.owed caller 0 } else w).chapter ≡ w.chapter
    go true = refl
    go false = refl

-- a number that isn't among the chapters with one more isn't among them, nor is it that one's
pub among_end : (n : ℕ) (cs : List ChapterValue) (c : ChapterValue) → is_chapter_among n (cs ++ c ∷ []) ≡ false → (is_chapter_among n cs ≡ false) × ((n == c.number) ≡ false)
among_end n [] c e = (refl, (either_false _ _ e).0)
among_end n (x ∷ cs) c e =
    let both = either_false _ _ e in
    let rest = among_end n cs c both.1 in
    (ap₂ (λ (a b : Bool). a || b) both.0 rest.0, rest.1)

-- and the other way round
pub not_among_more : (n : ℕ) (cs : List ChapterValue) (c : ChapterValue) → is_chapter_among n cs ≡ false → (n == c.number) ≡ false → is_chapter_among n (cs ++ c ∷ []) ≡ false
not_among_more n [] c e other = ap (λ (b : Bool). b || false) other
not_among_more n (x ∷ cs) c e other =
    let both = either_false _ _ e in
    ap₂ (λ (a b : Bool). a || b) both.0 (not_among_more n cs c both.1 other)

chapters_more : (ws : List WaitingValue) (w : WaitingValue) → chapters_in (ws ++ w ∷ []) ≡ chapters_in ws ++ w.chapter ∷ []
chapters_more [] w = refl
chapters_more (v ∷ ws) w = ap (λ (cs : List ChapterValue). v.chapter ∷ cs) (chapters_more ws w)

-- numbers that differ still do with one more chapter, whose number isn't among them
pub apart_more : (ws : List WaitingValue) (w : WaitingValue) → AreApart ws → is_chapter_among w.chapter.number (chapters_in ws) ≡ false → AreApart (ws ++ w ∷ [])
apart_more [] w a isnt = (refl, tt)
apart_more (v ∷ ws) w a isnt =
    let both = either_false _ _ isnt in (
      ap (is_chapter_among v.chapter.number) (chapters_more ws w) ∙ not_among_more v.chapter.number (chapters_in ws) w.chapter a.0 (other_way w.chapter.number v.chapter.number both.0),
      apart_more ws w a.1 both.1,
    )

not_among_filtered : (n : ℕ) (p : WaitingValue → Bool) (ws : List WaitingValue) → is_chapter_among n (chapters_in ws) ≡ false → is_chapter_among n (chapters_in (filter p ws)) ≡ false
not_among_filtered n p [] e = refl
not_among_filtered n p (w ∷ ws) e = go (p w) (either_false _ _ e).0 (not_among_filtered n p ws (either_false _ _ e).1)
  where
    go : (b : Bool) → (n == w.chapter.number) ≡ false → is_chapter_among n (chapters_in (filter p ws)) ≡ false → is_chapter_among n (chapters_in (cond b (w ∷ filter p ws) (filter p ws))) ≡ false
    go true other rest = ap₂ (λ (a b : Bool). a || b) other rest
    go false other rest = rest

apart_filtered : (p : WaitingValue → Bool) (ws : List WaitingValue) → AreApart ws → AreApart (filter p ws)
apart_filtered p [] a = tt
apart_filtered p (w ∷ ws) a = go (p w) (apart_filtered p ws a.1)
  where
    go : (b : Bool) → AreApart (filter p ws) → AreApart (cond b (w ∷ filter p ws) (filter p ws))
    go true rest = (not_among_filtered w.chapter.number p ws a.0, rest)
    go false rest = rest

apart_marked : (caller until : ℕ) (ws : List WaitingValue) → AreApart ws → AreApart (map (settled_mark caller until) ws)
apart_marked caller until [] a = tt
apart_marked caller until (w ∷ ws) a = (
  ap₂ (λ (n : ℕ) (cs : List ChapterValue). is_chapter_among n cs) (ap (λ (c : ChapterValue). c.number) (marked_chapter caller until w)) (marked_chapters caller until ws) ∙ a.0,
  apart_marked caller until ws a.1,
)

-- a chapter that waits isn't one to come
pub none_to_come : (chapters : List ChapterValue) (sheaves : List SheafValue) (ws : List WaitingValue) (n : ℕ) → AllByRecursion (IsChapterWaiting chapters sheaves) ws → length chapters ≤ n → is_chapter_among n (chapters_in ws) ≡ false
none_to_come chapters sheaves [] n h high = refl
none_to_come chapters sheaves (w ∷ ws) n h high =
    let low = get_low chapters w.chapter.number w.chapter h.0.taken in
    ap₂ (λ (a b : Bool). a || b) (ne_eqb n w.chapter.number (λ same. omega (arith, low, high, same))) (none_to_come chapters sheaves ws n h.1 high)

-- ---- what is due

-- what isn't among them isn't due
pub not_due : (s : SheafValue) (ws : List WaitingValue) (n : ℕ) → is_chapter_among n (chapters_in ws) ≡ false → has_due s ws n ≡ false
not_due s [] n e = refl
not_due s (w ∷ ws) n e =
    let both = either_false _ _ e in
    ap₂ (λ (a b : Bool). a || b) (ap (λ (b : Bool). is_due s w && b) both.0 ∙ and_false (is_due s w)) (not_due s ws n both.1)
  where
    and_false : (b : Bool) → (b && false) ≡ false
    and_false true = refl
    and_false false = refl

-- whether a chapter's number is due is whether it is
abbrev pub IsDueItself : SheafValue → List WaitingValue → WaitingValue → Type 0
IsDueItself s ws w = has_due s ws w.chapter.number ≡ is_due s w

behind_another : (s : SheafValue) (v : WaitingValue) (ws us : List WaitingValue) → is_chapter_among v.chapter.number (chapters_in us) ≡ false → AllByRecursion (IsDueItself s ws) us → AllByRecursion (IsDueItself s (v ∷ ws)) us
behind_another s v ws [] e h = tt
behind_another s v ws (u ∷ us) e h =
    let both = either_false _ _ e in
    let other : (u.chapter.number == v.chapter.number) ≡ false = other_way v.chapter.number u.chapter.number both.0 in
    (ap (λ (b : Bool). (is_due s v && b) || has_due s ws u.chapter.number) other ∙ go (is_due s v) ∙ h.0, behind_another s v ws us both.1 h.1)
  where
    go : (b : Bool) → ((b && false) || has_due s ws u.chapter.number) ≡ has_due s ws u.chapter.number
    go true = refl
    go false = refl

-- where no two have the same number, each chapter's number is due just where the chapter is
pub due_itself : (s : SheafValue) (ws : List WaitingValue) → AreApart ws → AllByRecursion (IsDueItself s ws) ws
due_itself s [] a = tt
due_itself s (w ∷ ws) a = (
  ap₂ (λ (b c : Bool). (is_due s w && b) || c) (same_number w.chapter.number) (not_due s ws w.chapter.number a.0) ∙ go (is_due s w),
  behind_another s w ws ws a.0 (due_itself s ws a.1),
)
  where
    go : (b : Bool) → ((b && true) || false) ≡ b
    go true = refl
    go false = refl

-- ---- receipts of one sheaf more

-- a sheaf more of this caller puts its receipts behind the caller's
pub by_same : (sheaves : List SheafValue) (s : SheafValue) (caller : ℕ) → s.caller ≡ caller → receipts_by caller (sheaves ++ s ∷ []) ≡ receipts_by caller sheaves ++ s.receipts
by_same [] s caller same = ap (λ (b : Bool). if b then s.receipts ++ [] else []) (eq-eqb s.caller caller same) ∙ append-nil s.receipts
by_same (x ∷ sheaves) s caller same = go (x.caller == caller) (by_same sheaves s caller same)
  where
    go : (b : Bool) → receipts_by caller (sheaves ++ s ∷ []) ≡ receipts_by caller sheaves ++ s.receipts → (if b then x.receipts ++ receipts_by caller (sheaves ++ s ∷ []) else receipts_by caller (sheaves ++ s ∷ [])) ≡ (if b then x.receipts ++ receipts_by caller sheaves else receipts_by caller sheaves) ++ s.receipts
    go true rest = ap (λ (l : List Receipt). x.receipts ++ l) rest ∙ sym (append_assoc x.receipts (receipts_by caller sheaves) s.receipts)
    go false rest = rest

-- and one of another caller puts none there
pub by_other : (sheaves : List SheafValue) (s : SheafValue) (caller : ℕ) → s.caller ≢ caller → receipts_by caller (sheaves ++ s ∷ []) ≡ receipts_by caller sheaves
by_other [] s caller other = ap (λ (b : Bool). if b then s.receipts ++ [] else []) (ne_eqb s.caller caller other)
by_other (x ∷ sheaves) s caller other = go (x.caller == caller) (by_other sheaves s caller other)
  where
    go : (b : Bool) → receipts_by caller (sheaves ++ s ∷ []) ≡ receipts_by caller sheaves → (if b then x.receipts ++ receipts_by caller (sheaves ++ s ∷ []) else receipts_by caller (sheaves ++ s ∷ [])) ≡ (if b then x.receipts ++ receipts_by caller sheaves else receipts_by caller sheaves)
    go true rest = ap (λ (l : List Receipt). x.receipts ++ l) rest
    go false rest = rest

-- of this chapter a sheaf more has nothing that its caller's sheaves hadn't
pub nothing_more : (n : ℕ) (sheaves : List SheafValue) (s : SheafValue) (caller : ℕ) → receipts_for false n s.receipts ≡ [] → receipts_for false n (receipts_by caller (sheaves ++ s ∷ [])) ≡ receipts_for false n (receipts_by caller sheaves)
nothing_more n sheaves s caller none = go (s.caller == caller) refl
  where
    go : (b : Bool) → (s.caller == caller) ≡ b → receipts_for false n (receipts_by caller (sheaves ++ s ∷ [])) ≡ receipts_for false n (receipts_by caller sheaves)
    go true is =
        ap (receipts_for false n) (by_same sheaves s caller (same_by s.caller caller is))
        ∙ among_append (λ m. m == n) (receipts_by caller sheaves) s.receipts
        ∙ ap (λ (l : List Receipt). receipts_for false n (receipts_by caller sheaves) ++ l) none
        ∙ append-nil (receipts_for false n (receipts_by caller sheaves))
    go false is = ap (receipts_for false n) (by_other sheaves s caller (differ_from s.caller caller is))

-- where there was nothing, it has all
pub all_of_it : (n : ℕ) (sheaves : List SheafValue) (s : SheafValue) → receipts_for false n (receipts_by s.caller sheaves) ≡ [] → receipts_for false n (receipts_by s.caller (sheaves ++ s ∷ [])) ≡ receipts_for false n s.receipts
all_of_it n sheaves s none =
    ap (receipts_for false n) (by_same sheaves s s.caller refl)
    ∙ among_append (λ m. m == n) (receipts_by s.caller sheaves) s.receipts
    ∙ ap (λ (l : List Receipt). l ++ receipts_for false n s.receipts) none

-- ---- a sheaf is taken

-- another caller's are as they were
owed_other : (sheaves : List SheafValue) (s : SheafValue) (until : ℕ) (w : WaitingValue) (caller : ℕ) → s.caller ≢ caller → IsOwedRight sheaves w caller → IsOwedRight (sheaves ++ s ∷ []) (settled_mark s.caller until w) caller
owed_other sheaves s until w caller other h = go (nat_lt w.chapter.number until)
  where
    same : receipts_by caller (sheaves ++ s ∷ []) ≡ receipts_by caller sheaves
    same = by_other sheaves s caller other

    still : (owed : List ℕ) → get_or owed caller 0 ≡ get_or w.owed caller 0 → IsOwedRight (sheaves ++ s ∷ []) (record w { owed = owed }) caller
    still owed is = elim h [
      | inl done ↦ inl (is ∙ done.0, ap (receipts_for false w.chapter.number) same ∙ done.1)
      | inr open_ ↦ inr (is ∙ open_.0, ap (receipts_for false w.chapter.number) same ∙ open_.1)
    ]

    go : (b : Bool) → IsOwedRight (sheaves ++ s ∷ []) (if b then record w { owed = set w.owed s.caller 0 } else w) caller
    go true = still (set w.owed s.caller 0) (get_or-set_other w.owed s.caller caller 0 0 (λ e. other (sym e)))
    go false = still w.owed refl

-- its caller's, where the chapter isn't due
owed_not_due : (sheaves : List SheafValue) (s : SheafValue) (w : WaitingValue) → is_due s w ≡ false → receipts_for false w.chapter.number s.receipts ≡ [] → IsOwedRight sheaves w s.caller → IsOwedRight (sheaves ++ s ∷ []) (settled_mark s.caller s.until w) s.caller
owed_not_due sheaves s w isnt none h = go (nat_lt w.chapter.number s.until) isnt
  where
    same : receipts_for false w.chapter.number (receipts_by s.caller (sheaves ++ s ∷ [])) ≡ receipts_for false w.chapter.number (receipts_by s.caller sheaves)
    same = nothing_more w.chapter.number sheaves s s.caller none

    zero_of : (b : Bool) → (get_or w.owed s.caller 0 == 0) ≡ b → (true && not b) ≡ false → get_or w.owed s.caller 0 ≡ 0
    zero_of true is e = same_by (get_or w.owed s.caller 0) 0 is
    zero_of false is e = absurd (true≢false e)

    settled : get_or w.owed s.caller 0 ≡ 0 → IsSettledBy (sheaves ++ s ∷ []) w.chapter s.caller
    settled none_left = elim h [
      | inl done ↦ same ∙ done.1
      | inr wanted ↦ same ∙ wanted.1 ∙ sym (empty_of (tally s.caller w.chapter.number 0 w.chapter.entries) (sym wanted.0 ∙ none_left))
    ]

    go : (b : Bool) → (b && not (get_or w.owed s.caller 0 == 0)) ≡ false → IsOwedRight (sheaves ++ s ∷ []) (if b then record w { owed = set w.owed s.caller 0 } else w) s.caller
    go true e = inl (zero_there w.owed s.caller, settled (zero_of (get_or w.owed s.caller 0 == 0) refl e))
    go false e = elim h [
      | inl done ↦ inl (done.0, same ∙ done.1)
      | inr wanted ↦ inr (wanted.0, same ∙ wanted.1)
    ]

-- its caller's, where it is due
owed_due : (sheaves : List SheafValue) (s : SheafValue) (w : WaitingValue) → is_due s w ≡ true → receipts_for false w.chapter.number s.receipts ≡ tally s.caller w.chapter.number 0 w.chapter.entries → IsOwedRight sheaves w s.caller → IsOwedRight (sheaves ++ s ∷ []) (settled_mark s.caller s.until w) s.caller
owed_due sheaves s w is_so fits h = go (nat_lt w.chapter.number s.until) is_so
  where
    not_zero : (b : Bool) → (get_or w.owed s.caller 0 == 0) ≡ b → (true && not b) ≡ true → get_or w.owed s.caller 0 ≢ 0
    not_zero true is e = absurd (true≢false (sym e))
    not_zero false is e = differ_from (get_or w.owed s.caller 0) 0 is

    settled : get_or w.owed s.caller 0 ≢ 0 → IsSettledBy (sheaves ++ s ∷ []) w.chapter s.caller
    settled some = elim h [
      | inl done ↦ absurd (some done.0)
      | inr wanted ↦ all_of_it w.chapter.number sheaves s wanted.1 ∙ fits
    ]

    go : (b : Bool) → (b && not (get_or w.owed s.caller 0 == 0)) ≡ true → IsOwedRight (sheaves ++ s ∷ []) (if b then record w { owed = set w.owed s.caller 0 } else w) s.caller
    go true e = inl (zero_there w.owed s.caller, settled (not_zero (get_or w.owed s.caller 0 == 0) refl e))
    go false e = absurd (true≢false (sym e))

-- one chapter that waits
waits_on : (chapters : List ChapterValue) (sheaves : List SheafValue) (s : SheafValue) (w : WaitingValue) → FitsDue s w → (is_due s w ≡ false → receipts_for false w.chapter.number s.receipts ≡ []) → IsChapterWaiting chapters sheaves w → IsChapterWaiting chapters (sheaves ++ s ∷ []) (settled_mark s.caller s.until w)
waits_on chapters sheaves s w fits others h = record {
  taken = subst (λ (c : ChapterValue). slice_get chapters c.number ≡ Some c) (sym (marked_chapter s.caller s.until w)) h.taken;
  owed = λ caller low. by_caller caller (s.caller == caller) refl (h.owed caller low);
}
  where
    mine : (b : Bool) → is_due s w ≡ b → IsOwedRight sheaves w s.caller → IsOwedRight (sheaves ++ s ∷ []) (settled_mark s.caller s.until w) s.caller
    mine true is_so h = owed_due sheaves s w is_so (fits is_so) h
    mine false isnt h = owed_not_due sheaves s w isnt (others isnt) h

    by_caller : (caller : ℕ) (b : Bool) → (s.caller == caller) ≡ b → IsOwedRight sheaves w caller → IsOwedRight (sheaves ++ s ∷ []) (settled_mark s.caller s.until w) caller
    by_caller caller true is h =
        let same = same_by s.caller caller is in
        subst (λ (n : ℕ). IsOwedRight (sheaves ++ s ∷ []) (settled_mark s.caller s.until w) n) same
        (mine (is_due s w) refl (subst (λ (n : ℕ). IsOwedRight sheaves w n) (sym same) h))
    by_caller caller false is h = owed_other sheaves s s.until w caller (differ_from s.caller caller is) h

wait_on : (chapters : List ChapterValue) (sheaves : List SheafValue) (s : SheafValue) (all ws : List WaitingValue) → ((n : ℕ) → has_due s all n ≡ false → receipts_for false n s.receipts ≡ []) → AllByRecursion (FitsDue s) ws → AllByRecursion (IsDueItself s all) ws
    → AllByRecursion (IsChapterWaiting chapters sheaves) ws → AllByRecursion (IsChapterWaiting chapters (sheaves ++ s ∷ [])) (map (settled_mark s.caller s.until) ws)
wait_on chapters sheaves s all [] others fits itself h = tt
wait_on chapters sheaves s all (w ∷ ws) others fits itself h = (
  waits_on chapters sheaves s w fits.0 (λ isnt. others w.chapter.number (itself.0 ∙ isnt)) h.0,
  wait_on chapters sheaves s all ws others fits.1 itself.1 h.1,
)

-- a sheaf that fits is taken
pub kept_sheaf : (chapters : List ChapterValue) (sheaves : List SheafValue) (ws : List WaitingValue) (s : SheafValue) → ((j : ℕ) (c : ChapterValue) → slice_get chapters j ≡ Some c → c.number ≡ j) → FitsAll s ws → AreKept chapters sheaves ws → AreKept chapters (sheaves ++ s ∷ []) (map (settled_mark s.caller s.until) ws)
kept_sheaf chapters sheaves ws s numbered fits h = record {
  waiting = wait_on chapters sheaves s ws ws fits.others fits.each (due_itself s ws h.apart) h.waiting;
  apart = apart_marked s.caller s.until ws h.apart;
  dropped = λ j c there none caller low.
      let gone : is_chapter_among j (chapters_in ws) ≡ false = sym (ap (is_chapter_among j) (marked_chapters s.caller s.until ws)) ∙ none in
      let number = numbered j c there in
      let nothing : receipts_for false c.number s.receipts ≡ [] = fits.others c.number (ap (has_due s ws) number ∙ not_due s ws j gone) in
      nothing_more c.number sheaves s caller nothing ∙ h.dropped j c there gone caller low;
  future = λ n caller high.
      nothing_more n sheaves s caller (fits.others n (not_due s ws n (none_to_come chapters sheaves ws n h.waiting high))) ∙ h.future n caller high;
}

-- ---- a chapter is taken

-- a chapter with the next number may wait with the others, where all calls of each caller are wanted
pub kept_chapter : (chapters : List ChapterValue) (sheaves : List SheafValue) (ws : List WaitingValue) (w : WaitingValue) → w.chapter.number ≡ length chapters → ((caller : ℕ) → caller < caller_limit → get_or w.owed caller 0 ≡ calls_in_chapter caller w.chapter)
    → AreKept chapters sheaves ws → AreKept (chapters ++ w.chapter ∷ []) sheaves (ws ++ w ∷ [])
kept_chapter chapters sheaves ws w number counted h = record {
  waiting = all_more (IsChapterWaiting (chapters ++ w.chapter ∷ []) sheaves) ws w (all_weaker (IsChapterWaiting chapters sheaves) (IsChapterWaiting (chapters ++ w.chapter ∷ []) sheaves) (λ v waits. record { taken = get_more chapters w.chapter v.chapter.number v.chapter waits.taken; owed = waits.owed }) ws h.waiting) (record {
    taken = ap (slice_get (chapters ++ w.chapter ∷ [])) number ∙ get_end chapters w.chapter;
    owed = λ caller low. inr (counted caller low, h.future w.chapter.number caller (omega (arith, number)));
  });
  apart = apart_more ws w h.apart (none_to_come chapters sheaves ws w.chapter.number h.waiting (omega (arith, number)));
  dropped = λ j c there none caller low.
      let apart = among_end j (chapters_in ws) w.chapter (sym (ap (is_chapter_among j) (chapters_more ws w)) ∙ none) in
      elim (get_split chapters w.chapter j c there) [
        | inl old ↦ h.dropped j c old apart.0 caller low
        | inr new ↦ absurd (differ_from j w.chapter.number apart.1 (new.0 ∙ sym number))
      ];
  future = λ n caller high. h.future n caller (let l = length_more chapters w.chapter in omega (arith, l, high));
}
  where
    length_more : (cs : List ChapterValue) (c : ChapterValue) → length (cs ++ c ∷ []) ≡ suc (length cs)
    length_more [] c = refl
    length_more (x ∷ cs) c = ap suc (length_more cs c)

-- ---- chapters are dropped

-- one that goes is settled by all
gone_settled : (chapters : List ChapterValue) (sheaves : List SheafValue) (ws : List WaitingValue) (j : ℕ) (c : ChapterValue) → AllByRecursion (IsChapterWaiting chapters sheaves) ws → slice_get chapters j ≡ Some c → is_chapter_among j (chapters_in ws) ≡ true → is_chapter_among j (chapters_in (filter (λ w. not (owes_nothing w)) ws)) ≡ false
    → (caller : ℕ) → caller < caller_limit → IsSettledBy sheaves c caller
gone_settled chapters sheaves [] j c h there was none caller low = absurd (true≢false (sym was))
gone_settled chapters sheaves (w ∷ ws) j c h there was none caller low = go (owes_nothing w) refl (j == w.chapter.number) refl (λ a b. gone_settled chapters sheaves ws j c h.1 there a b caller low) was none
  where
    settled : owes_nothing w ≡ true → IsOwedRight sheaves w caller → IsSettledBy sheaves w.chapter caller
    settled nothing right = elim right [
      | inl done ↦ done.1
      | inr wanted ↦ wanted.1 ∙ sym (empty_of (tally caller w.chapter.number 0 w.chapter.entries) (sym wanted.0 ∙ all_zero w.owed nothing caller))
    ]

    go : (b : Bool) → owes_nothing w ≡ b → (d : Bool) → (j == w.chapter.number) ≡ d
        → (is_chapter_among j (chapters_in ws) ≡ true → is_chapter_among j (chapters_in (filter (λ v. not (owes_nothing v)) ws)) ≡ false → IsSettledBy sheaves c caller) → (d || is_chapter_among j (chapters_in ws)) ≡ true
        → is_chapter_among j (chapters_in (cond (not b) (w ∷ filter (λ v. not (owes_nothing v)) ws) (filter (λ v. not (owes_nothing v)) ws))) ≡ false → IsSettledBy sheaves c caller
    go true nothing true is rest was none =
        let chapter : w.chapter ≡ c = some_same w.chapter c (sym (ap (slice_get chapters) (same_by j w.chapter.number is) ∙ h.0.taken) ∙ there) in
        subst (λ (x : ChapterValue). IsSettledBy sheaves x caller) chapter (settled nothing (h.0.owed caller low))
    go true nothing false is rest was none = rest was none
    go false some true is rest was none = absurd (differ_from j w.chapter.number (either_false _ _ none).0 (same_by j w.chapter.number is))
    go false some false is rest was none = rest was (either_false _ _ none).1

-- where chapters of which nothing is wanted wait no more, the rest still do rightly, and those are settled
pub kept_dropped : (chapters : List ChapterValue) (sheaves : List SheafValue) (ws : List WaitingValue) → AreKept chapters sheaves ws → AreKept chapters sheaves (filter (λ w. not (owes_nothing w)) ws)
kept_dropped chapters sheaves ws h = record {
  waiting = all_filtered (IsChapterWaiting chapters sheaves) (λ w. not (owes_nothing w)) ws h.waiting;
  apart = apart_filtered (λ w. not (owes_nothing w)) ws h.apart;
  dropped = λ j c there none caller low. go j c there none caller low (is_chapter_among j (chapters_in ws)) refl;
  future = h.future;
}
  where
    go : (j : ℕ) (c : ChapterValue) → slice_get chapters j ≡ Some c → is_chapter_among j (chapters_in (filter (λ w. not (owes_nothing w)) ws)) ≡ false → (caller : ℕ) → caller < caller_limit → (b : Bool) → is_chapter_among j (chapters_in ws) ≡ b → IsSettledBy sheaves c caller
    go j c there none caller low true was = gone_settled chapters sheaves ws j c h.waiting there was none caller low
    go j c there none caller low false was = h.dropped j c there was caller low

-- ---- nothing yet

-- without chapters and sheaves all is kept rightly
pub kept_nothing : AreKept [] [] []
kept_nothing = record { waiting = tt; apart = tt; dropped = λ j c there none caller low. absurd (none_there c there); future = λ n caller high. refl }
  where
    none_there : (c : ChapterValue) → None ≡ Some c → ⊥
    none_there c e = cc

-- what counts of a caller's calls is right
pub counted_for : (chapters : List ChapterValue) (sheaves : List SheafValue) (caller : ℕ) → caller < caller_limit → (ws : List WaitingValue) → AllByRecursion (IsChapterWaiting chapters sheaves) ws → AllByRecursion (IsCountedFor caller) ws
counted_for chapters sheaves caller low ws h = all_weaker (IsChapterWaiting chapters sheaves) (IsCountedFor caller) (λ w waits. elim (waits.owed caller low) [
  | inl done ↦ inl done.0
  | inr wanted ↦ inr wanted.0
]) ws h
