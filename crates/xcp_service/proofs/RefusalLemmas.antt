-- When a keeper refuses a sheaf, and when a keeper doesn't meet a slave.
use Rattle.std.proofs.Common.{◌≡◌, ◌≢◌, ◌⊎◌, inl, inr, ◌≤◌, ◌<◌, ◌||◌, ◌&&◌, not, ℕ, zero, suc, Bool, true, false, List, [], ◌∷◌, ◌++◌, ◌==◌, refl, sym, ap, ap₂, ◌∙◌, subst, length, arith, rules, true≢false, if◌then◌else◌, get_or, set, Some}
use Rattle.std.specs.List.{AllByRecursion, slice_get}
use Rattle.std.specs.Prelude.{map, nat_lt}
use Rattle.xcp_memory.specs.Layout.{LayoutValue}
use Rattle.xcp_locked.specs.Chapters.{AreJoined}
use Rattle.xcp_locked.specs.LockedSlave.{ChapterValue, LockedValue}
use Rattle.xcp_locked.specs.SettledReceipts.{DifferAt, among, receipts_for, tally}
use Rattle.xcp_locked.specs.Sheaves.{SheafValue}
use Rattle.xcp_locked.specs.declared.joining.Discord.{Discord}
use Rattle.xcp_locked.specs.declared.receipt.Receipt.{Receipt}
use Rattle.xcp_service.specs.Keeping.{IsSettledBy, KeeperValue, caller_limit, is_chapter_among, receipts_by}
use Rattle.xcp_service.specs.Refusals.{GoesNoFurther, HasItsDue, IsMet, RefusesSheaf}
use Rattle.xcp_service.specs.declared.keeper.Unkept.{Unkept}
use Rattle.xcp_service.specs.private.Waiting.{AreKept, FitsAll, IsSheafUnfit, IsChapterWaiting, WaitingValue, chapters_in, has_due, is_due, settled_mark}
use Rattle.xcp_service.proofs.AmongLemmas.{among_append, among_few, differ_from, either_false, same_by, same_number}
use Rattle.xcp_service.proofs.JoinedMoreLemmas.{joined_same}
use Rattle.xcp_service.proofs.KeepingLemmas.{all_of_it, by_same, empty_of, kept_sheaf, marked_chapter, marked_chapters, some_same, zero_there}

-- ---- lists

-- what holds of all holds of the one at a place
pub all_at : {X : Type 0} (P : X → Type 0) (xs : List X) (k : ℕ) (x : X) → AllByRecursion P xs → slice_get xs k ≡ Some x → P x
all_at P [] k x h there = cc
all_at P (y ∷ xs) zero x h there = subst P (some_same y x there) h.0
all_at P (y ∷ xs) (suc k) x h there = all_at P xs k x h.1 there

-- what stands at a place before the end
get_there : {X : Type 0} (xs : List X) (k : ℕ) → k < length xs → (x : X) × (slice_get xs k ≡ Some x)
get_there [] k low = absurd (omega (arith, low))
get_there (y ∷ xs) zero low = (y, refl)
get_there (y ∷ xs) (suc k) low = get_there xs k (omega (arith, low))

-- what comes behind a list that is all is nothing
nothing_behind : (xs ys zs : List Receipt) → xs ++ ys ≡ zs → xs ≡ zs → ys ≡ []
nothing_behind [] ys zs both one = both ∙ sym one
nothing_behind (x ∷ xs) ys zs both one = nothing_behind xs ys xs (tails x (xs ++ ys) xs (both ∙ sym one)) refl
  where
    tails : (r : Receipt) (us vs : List Receipt) → r ∷ us ≡ r ∷ vs → us ≡ vs
    tails r us vs e = cc

-- a chapter of this number that waits
find_among : (n : ℕ) (ws : List WaitingValue) → is_chapter_among n (chapters_in ws) ≡ true → (k : ℕ) × (w : WaitingValue) × (slice_get ws k ≡ Some w) × (w.chapter.number ≡ n)
find_among n [] e = absurd (true≢false (sym e))
find_among n (w ∷ ws) e = go (n == w.chapter.number) refl (find_among n ws) e
  where
    go : (b : Bool) → (n == w.chapter.number) ≡ b → (is_chapter_among n (chapters_in ws) ≡ true → (k : ℕ) × (v : WaitingValue) × (slice_get ws k ≡ Some v) × (v.chapter.number ≡ n)) → (b || is_chapter_among n (chapters_in ws)) ≡ true
        → (k : ℕ) × (v : WaitingValue) × (slice_get (w ∷ ws) k ≡ Some v) × (v.chapter.number ≡ n)
    go true is rest e = (0, w, refl, sym (same_by n w.chapter.number is))
    go false is rest e = let found = rest e in (suc found.0, found.1, found.2, found.3)

-- where no chapter of its number is due it isn't
one_not_due : (s : SheafValue) (ws : List WaitingValue) (k : ℕ) (w : WaitingValue) → slice_get ws k ≡ Some w → has_due s ws w.chapter.number ≡ false → is_due s w ≡ false
one_not_due s [] k w there e = cc
one_not_due s (v ∷ ws) zero w there e =
    let same = some_same v w there in
    let own = (either_false (is_due s v && (w.chapter.number == v.chapter.number)) (has_due s ws w.chapter.number) e).0 in
    go (is_due s w) (sym (ap₂ (λ (a b : Bool). a && b) (ap (is_due s) same) (ap (λ (x : WaitingValue). w.chapter.number == x.chapter.number) same ∙ same_number w.chapter.number)) ∙ own)
  where
    go : (b : Bool) → (b && true) ≡ false → b ≡ false
    go true e = e
    go false e = refl
one_not_due s (v ∷ ws) (suc k) w there e = one_not_due s ws k w there (either_false (is_due s v && (w.chapter.number == v.chapter.number)) (has_due s ws w.chapter.number) e).1

-- a chapter that is due was cut off before the sheaf was handed over, and wants something of its caller
due_before : (s : SheafValue) (w : WaitingValue) → is_due s w ≡ true → (w.chapter.number < s.until) × (get_or w.owed s.caller 0 ≢ 0)
due_before s w e = go (nat_lt w.chapter.number s.until) refl (get_or w.owed s.caller 0 == 0) refl e
  where
    go : (a : Bool) → nat_lt w.chapter.number s.until ≡ a → (b : Bool) → (get_or w.owed s.caller 0 == 0) ≡ b → (a && not b) ≡ true → (w.chapter.number < s.until) × (get_or w.owed s.caller 0 ≢ 0)
    go true low true none e = absurd (true≢false (sym e))
    go true low false some e = (search rules, differ_from (get_or w.owed s.caller 0) 0 some)
    go false high b is e = absurd (true≢false (sym e))

-- one that isn't due, and was cut off before, wants nothing of its caller
not_due_before : (s : SheafValue) (w : WaitingValue) → is_due s w ≡ false → w.chapter.number < s.until → get_or w.owed s.caller 0 ≡ 0
not_due_before s w e low = go (nat_lt w.chapter.number s.until) refl (get_or w.owed s.caller 0 == 0) refl e
  where
    go : (a : Bool) → nat_lt w.chapter.number s.until ≡ a → (b : Bool) → (get_or w.owed s.caller 0 == 0) ≡ b → (a && not b) ≡ false → get_or w.owed s.caller 0 ≡ 0
    go true is true none e = same_by (get_or w.owed s.caller 0) 0 none
    go true is false some e = absurd (true≢false e)
    go false is b none e = absurd (true≢false (sym (search (rules, low)) ∙ is))

-- where each chapter's receipts are among these, all are
among_whole : (p : ℕ → Bool) (xs : List Receipt) → ((n : ℕ) → p n ≡ false → among (λ m. m == n) xs ≡ []) → length (among p xs) ≡ length xs
among_whole p [] none = refl
among_whole p (x ∷ xs) none = go (p x.chapter) refl (among_whole p xs (λ n isnt. rest n (none n isnt)))
  where
    rest : (n : ℕ) → among (λ m. m == n) (x ∷ xs) ≡ [] → among (λ m. m == n) xs ≡ []
    rest n e = tail (x.chapter == n) e
      where
        tail : (b : Bool) → (if b then x ∷ among (λ m. m == n) xs else among (λ m. m == n) xs) ≡ [] → among (λ m. m == n) xs ≡ []
        tail true e = cc
        tail false e = e

    some_there : (ys : List Receipt) → x ∷ ys ≡ [] → ⊥
    some_there ys e = cc

    go : (b : Bool) → p x.chapter ≡ b → length (among p xs) ≡ length xs → length (if b then x ∷ among p xs else among p xs) ≡ suc (length xs)
    go true is all = ap suc all
    go false isnt all = absurd (some_there (among (λ m. m == x.chapter) xs) (sym (ap (λ (b : Bool). if b then x ∷ among (λ m. m == x.chapter) xs else among (λ m. m == x.chapter) xs) (same_number x.chapter)) ∙ none x.chapter isnt))

-- lists that differ somewhere aren't the same
differ_not : (at : ℕ) (xs ys : List Receipt) → DifferAt at xs ys → xs ≡ ys → ⊥
differ_not at xs ys h same = h.1 (ap (λ (l : List Receipt). slice_get l at) same)

-- ---- a sheaf that has its due

-- what a caller's sheaves have of a chapter with one more
with_one_more : (n : ℕ) (sheaves : List SheafValue) (s : SheafValue) → receipts_for false n (receipts_by s.caller (sheaves ++ s ∷ [])) ≡ receipts_for false n (receipts_by s.caller sheaves) ++ receipts_for false n s.receipts
with_one_more n sheaves s = ap (receipts_for false n) (by_same sheaves s s.caller refl) ∙ among_append (λ m. m == n) (receipts_by s.caller sheaves) s.receipts

-- it has the calls of a chapter that is due
has_due_calls : (k : KeeperValue) (ws : List WaitingValue) (s : SheafValue) (at : ℕ) (w : WaitingValue) → AreKept k.chapters k.sheaves ws → s.caller < caller_limit → HasItsDue k s → slice_get ws at ≡ Some w → is_due s w ≡ true
    → receipts_for false w.chapter.number s.receipts ≡ tally s.caller w.chapter.number 0 w.chapter.entries
has_due_calls k ws s at w h low due there is_so =
    let waits = all_at (IsChapterWaiting k.chapters k.sheaves) ws at w h.waiting there in
    let before = due_before s w is_so in
    let settles = due.settles w.chapter.number w.chapter waits.taken before.0 in
    elim (waits.owed s.caller low) [
      | inl done ↦ absurd (before.1 done.0)
      | inr wanted ↦ sym (all_of_it w.chapter.number k.sheaves s wanted.1) ∙ settles
    ]

-- it has nothing of a chapter that isn't
has_no_others : (k : KeeperValue) (ws : List WaitingValue) (s : SheafValue) → ((j : ℕ) (c : ChapterValue) → slice_get k.chapters j ≡ Some c → c.number ≡ j) → AreKept k.chapters k.sheaves ws → s.caller < caller_limit → HasItsDue k s
    → (n : ℕ) → has_due s ws n ≡ false → receipts_for false n s.receipts ≡ []
has_no_others k ws s numbered h low due n none = by_until (nat_lt n s.until) refl (nat_lt n (length k.chapters)) refl
  where
    settled : (c : ChapterValue) → c.number ≡ n → slice_get k.chapters n ≡ Some c → n < s.until → IsSettledBy k.sheaves c s.caller → receipts_for false n s.receipts ≡ []
    settled c is there before was =
        subst (λ (m : ℕ). receipts_for false m s.receipts ≡ []) is
        (nothing_behind (receipts_for false c.number (receipts_by s.caller k.sheaves)) (receipts_for false c.number s.receipts) (tally s.caller c.number 0 c.entries) (sym (with_one_more c.number k.sheaves s) ∙ due.settles n c there before) was)

    waiting : (c : ChapterValue) → c.number ≡ n → slice_get k.chapters n ≡ Some c → n < s.until → (w : WaitingValue) (at : ℕ) → slice_get ws at ≡ Some w → w.chapter.number ≡ n → receipts_for false n s.receipts ≡ []
    waiting c is there before w at found same =
        let waits = all_at (IsChapterWaiting k.chapters k.sheaves) ws at w h.waiting found in
        let chapter : w.chapter ≡ c = some_same w.chapter c (sym waits.taken ∙ ap (slice_get k.chapters) same ∙ there) in
        let isnt = one_not_due s ws at w found (ap (has_due s ws) same ∙ none) in
        let zero_left = not_due_before s w isnt (omega (arith, same, before)) in
        elim (waits.owed s.caller low) [
          | inl done ↦ settled c is there before (subst (λ (x : ChapterValue). IsSettledBy k.sheaves x s.caller) chapter done.1)
          | inr wanted ↦ settled c is there before (subst (λ (x : ChapterValue). IsSettledBy k.sheaves x s.caller) chapter
              (wanted.1 ∙ sym (empty_of (tally s.caller w.chapter.number 0 w.chapter.entries) (sym wanted.0 ∙ zero_left))))
        ]

    taken : (c : ChapterValue) → slice_get k.chapters n ≡ Some c → n < s.until → (b : Bool) → is_chapter_among n (chapters_in ws) ≡ b → receipts_for false n s.receipts ≡ []
    taken c there before true was = let found = find_among n ws was in waiting c (numbered n c there) there before found.1 found.0 found.2 found.3
    taken c there before false gone = settled c (numbered n c there) there before (h.dropped n c there gone s.caller low)

    by_until : (a : Bool) → nat_lt n s.until ≡ a → (b : Bool) → nat_lt n (length k.chapters) ≡ b → receipts_for false n s.receipts ≡ []
    by_until true before true there = let found = get_there k.chapters n (search rules) in taken found.0 found.1 (search rules) (is_chapter_among n (chapters_in ws)) refl
    by_until true before false high = due.others n (inr (search rules))
    by_until false late b there = due.others n (inl (search rules))

-- a sheaf that doesn't fit hasn't its due
pub refuses_of : (k : KeeperValue) (ws : List WaitingValue) (s : SheafValue) (d : Discord) → ((j : ℕ) (c : ChapterValue) → slice_get k.chapters j ≡ Some c → c.number ≡ j) → AreKept k.chapters k.sheaves ws → s.caller < caller_limit → IsSheafUnfit s ws d → RefusesSheaf k s d
refuses_of k ws s d numbered h low unfit = elim unfit [
  | inl one ↦ record {
    lacks = λ due. differ_not one.3.at _ _ one.3.differs (has_due_calls k ws s one.0 one.1 h low due one.2 one.3.due);
    chapter = one.1.chapter.number;
    at = one.3.at;
    wrong = inl (one.1.chapter, (all_at (IsChapterWaiting k.chapters k.sheaves) ws one.0 one.1 h.waiting one.2).taken, one.3.differs);
    told = one.3.told;
  }
  | inr others ↦ record {
    lacks = λ due. others.less (others.count ∙ among_whole (has_due s ws) s.receipts (has_no_others k ws s numbered h low due));
    chapter = s.until;
    at = others.right;
    wrong = inr (refl, (let few = among_few (has_due s ws) s.receipts in let count = others.count in let less = others.less in omega (arith, few, count, less)));
    told = others.told;
  }
]

-- one that fits has
pub due_of : (k : KeeperValue) (ws : List WaitingValue) (s : SheafValue) → ((j : ℕ) (c : ChapterValue) → slice_get k.chapters j ≡ Some c → c.number ≡ j) → AreKept k.chapters k.sheaves ws → s.caller < caller_limit → FitsAll s ws → HasItsDue k s
due_of k ws s numbered h low fits = record {
  settles = λ j c there before. taken j c there before (is_chapter_among j (chapters_in ws)) refl;
  others = λ n out. fits.others n (not_due_out n out ws h.waiting);
}
  where
    kept : AreKept k.chapters (k.sheaves ++ s ∷ []) (map (settled_mark s.caller s.until) ws)
    kept = kept_sheaf k.chapters k.sheaves ws s numbered fits h

    marked_zero : (w : WaitingValue) → w.chapter.number < s.until → get_or (settled_mark s.caller s.until w).owed s.caller 0 ≡ 0
    marked_zero w before = go (nat_lt w.chapter.number s.until) (search rules)
      where
        go : (b : Bool) → b ≡ true → get_or (if b then record w { owed = set w.owed s.caller 0 } else w).owed s.caller 0 ≡ 0
        go true is = zero_there w.owed s.caller
        go false isnt = absurd (true≢false (sym isnt))

    get_marked : (us : List WaitingValue) (at : ℕ) (w : WaitingValue) → slice_get us at ≡ Some w → slice_get (map (settled_mark s.caller s.until) us) at ≡ Some (settled_mark s.caller s.until w)
    get_marked [] at w there = cc
    get_marked (u ∷ us) zero w there = ap (λ (x : WaitingValue). Some (settled_mark s.caller s.until x)) (some_same u w there)
    get_marked (u ∷ us) (suc at) w there = get_marked us at w there

    taken : (j : ℕ) (c : ChapterValue) → slice_get k.chapters j ≡ Some c → j < s.until → (b : Bool) → is_chapter_among j (chapters_in ws) ≡ b → IsSettledBy (k.sheaves ++ s ∷ []) c s.caller
    taken j c there before false gone = kept.dropped j c there (ap (is_chapter_among j) (marked_chapters s.caller s.until ws) ∙ gone) s.caller low
    taken j c there before true was =
        let found = find_among j ws was in
        let w = found.1 in
        let v = settled_mark s.caller s.until w in
        let waits = all_at (IsChapterWaiting k.chapters (k.sheaves ++ s ∷ [])) (map (settled_mark s.caller s.until) ws) found.0 v kept.waiting (get_marked ws found.0 w found.2) in
        let same : v.chapter.number ≡ j = ap (λ (x : ChapterValue). x.number) (marked_chapter s.caller s.until w) ∙ found.3 in
        let chapter : v.chapter ≡ c = some_same v.chapter c (sym (waits.taken) ∙ ap (slice_get k.chapters) same ∙ there) in
        let none_left = marked_zero w (let is = found.3 in omega (arith, is, before)) in
        subst (λ (x : ChapterValue). IsSettledBy (k.sheaves ++ s ∷ []) x s.caller) chapter (elim (waits.owed s.caller low) [
          | inl done ↦ done.1
          | inr wanted ↦ wanted.1 ∙ sym (empty_of (tally s.caller v.chapter.number 0 v.chapter.entries) (sym wanted.0 ∙ none_left))
        ])

    none_out : (n : ℕ) (w : WaitingValue) → (s.until ≤ n) ⊎ (length k.chapters ≤ n) → IsChapterWaiting k.chapters k.sheaves w → (is_due s w && (n == w.chapter.number)) ≡ false
    none_out n w out waits = go (n == w.chapter.number) refl
      where
        late : n ≡ w.chapter.number → (b : Bool) → is_due s w ≡ b → b ≡ false
        late same false isnt = refl
        late same true is_so = elim out [
          | inl high ↦ absurd (let before = (due_before s w is_so).0 in omega (arith, high, same, before))
          | inr high ↦ absurd (let there = low_of k.chapters w.chapter.number w.chapter waits.taken in omega (arith, high, same, there))
        ]
          where
            low_of : (cs : List ChapterValue) (i : ℕ) (c : ChapterValue) → slice_get cs i ≡ Some c → i < length cs
            low_of [] i c there = cc
            low_of (x ∷ cs) zero c there = omega arith
            low_of (x ∷ cs) (suc i) c there = let less = low_of cs i c there in omega (arith, less)

        go : (b : Bool) → (n == w.chapter.number) ≡ b → (is_due s w && b) ≡ false
        go true is = ap (λ (a : Bool). a && true) (late (same_by n w.chapter.number is) (is_due s w) refl)
        go false isnt = and_false (is_due s w)
          where
            and_false : (a : Bool) → (a && false) ≡ false
            and_false true = refl
            and_false false = refl

    not_due_out : (n : ℕ) → (s.until ≤ n) ⊎ (length k.chapters ≤ n) → (us : List WaitingValue) → AllByRecursion (IsChapterWaiting k.chapters k.sheaves) us → has_due s us n ≡ false
    not_due_out n out [] hs = refl
    not_due_out n out (u ∷ us) hs = ap₂ (λ (a b : Bool). a || b) (none_out n u out hs.0) (not_due_out n out us hs.1)

-- ---- a slave that is met

length-chapters : (ws : List WaitingValue) → length (chapters_in ws) ≡ length ws
length-chapters [] = refl
length-chapters (w ∷ ws) = ap suc (length-chapters ws)

-- A keeper that meets a slave has no chapter that waits, and goes on where the slave's open chapter begins.
pub met_means : (layout : LayoutValue) (k v : KeeperValue) (ws : List WaitingValue) (l : LockedValue) → v ≡ k → v.waiting ≡ chapters_in ws → AreJoined layout v.chapters v.number v.before v.last → IsMet layout k l
    → (length ws ≡ 0) × (v.number ≡ l.chapter) × (v.before ≡ l.before) × (v.last ≡ l.base)
met_means layout k v ws l is waits joined met =
    let none = sym (length-chapters ws) ∙ (ap length (sym waits ∙ (ap (λ (x : KeeperValue). x.waiting) is ∙ met.0))) in
    let same = joined_same layout v.chapters v.number v.before l.chapter l.before v.last l.base joined (subst (λ (x : KeeperValue). AreJoined layout x.chapters l.chapter l.before l.base) (sym is) met.1) in
    (none, same.0, same.1, same.2)

-- ---- what came

-- why a keeper goes no further is the same where it refuses the same
pub no_further : (P Q : Discord → Type 0) → ((d : Discord) → P d → Q d) → (why : Unkept) → GoesNoFurther P why → GoesNoFurther Q why
no_further P Q weaker why h = elim h [
  | inl memory ↦ inl memory
  | inr refused ↦ inr (refused.0, refused.1, weaker refused.0 refused.2)
]
