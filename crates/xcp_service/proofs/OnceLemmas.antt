-- Each receipt is of one chapter: all together there are as many as those of the chapters.
use Rattle.std.proofs.Common.{◌≡◌, ◌≤◌, ◌<◌, ◌+◌, ℕ, zero, suc, Bool, true, false, List, [], ◌∷◌, ◌==◌, refl, sym, ap, ◌∙◌, cond, length, arith, ne_eqb, rules, if◌then◌else◌, nat_le, Some}
use Rattle.std.specs.List.{count_by, slice_get}
use Rattle.std.proofs.lemmas.List.Sums.{sum_by-append, sum_by-cons}
use Rattle.xcp_memory.specs.Layout.{LayoutValue}
use Rattle.xcp_slave.specs.SlaveValue.{SlaveValue}
use Rattle.xcp_trace.specs.declared.Entry.{Entry}
use Rattle.xcp_locked.specs.Chapters.{AreJoined, entries_of}
use Rattle.xcp_locked.specs.LockedSlave.{ChapterValue}
use Rattle.xcp_locked.specs.Receipts.{receipt_of}
use Rattle.xcp_locked.specs.SettledReceipts.{receipts_for, tally}
use Rattle.xcp_locked.specs.Sheaves.{SheafValue}
use Rattle.xcp_locked.specs.declared.receipt.Receipt.{Receipt}
use Rattle.xcp_service.specs.Keeping.{IsSettledBy, calls_by, caller_limit, receipts_by}
use Rattle.xcp_service.specs.private.Waiting.{AreKept, WaitingValue}
use Rattle.xcp_service.proofs.AmongLemmas.{differ_from, same_by, same_number}
use Rattle.xcp_service.proofs.JoinedMoreLemmas.{numbers}

-- how many receipts are of so many chapters, from this one on
abbrev pub sum_from : ℕ → ℕ → List Receipt → ℕ
sum_from k zero rs = 0
sum_from k (suc m) rs = length (receipts_for false k rs) + sum_from (suc k) m rs

none_from : (k m : ℕ) → sum_from k m [] ≡ 0
none_from k zero = refl
none_from k (suc m) = let rest = none_from (suc k) m in omega (arith, rest)

-- a receipt of an earlier chapter is none of them
earlier_one : (k m : ℕ) (r : Receipt) (rs : List Receipt) → r.chapter < k → sum_from k m (r ∷ rs) ≡ sum_from k m rs
earlier_one k zero r rs low = refl
earlier_one k (suc m) r rs low =
    ap (λ (b : Bool). length (if b then r ∷ receipts_for false k rs else receipts_for false k rs) + sum_from (suc k) m (r ∷ rs)) (ne_eqb r.chapter k (λ same. omega (arith, low, same)))
    ∙ ap (λ (n : ℕ). length (receipts_for false k rs) + n) (earlier_one (suc k) m r rs (omega (arith, low)))

-- one of these chapters is one of them, once
one_more : (k m : ℕ) (r : Receipt) (rs : List Receipt) → k ≤ r.chapter → r.chapter < k + m → sum_from k m (r ∷ rs) ≡ suc (sum_from k m rs)
one_more k zero r rs from until = absurd (omega (arith, from, until))
one_more k (suc m) r rs from until = go (r.chapter == k) refl (λ later. one_more (suc k) m r rs later (omega (arith, until)))
  where
    go : (b : Bool) → (r.chapter == k) ≡ b → (suc k ≤ r.chapter → sum_from (suc k) m (r ∷ rs) ≡ suc (sum_from (suc k) m rs)) → length (if b then r ∷ receipts_for false k rs else receipts_for false k rs) + sum_from (suc k) m (r ∷ rs) ≡ suc (length (receipts_for false k rs) + sum_from (suc k) m rs)
    go true is later =
        let same = same_by r.chapter k is in
        let rest = earlier_one (suc k) m r rs (omega (arith, same)) in
        omega (arith, rest)
    go false other later =
        let differ = differ_from r.chapter k other in
        let rest = later (omega (arith, from, differ)) in
        omega (arith, rest)

-- what has nothing with one more has nothing without it
none_without : (n : ℕ) (r : Receipt) (rs : List Receipt) → receipts_for false n (r ∷ rs) ≡ [] → receipts_for false n rs ≡ []
none_without n r rs none = go (r.chapter == n) none
  where
    go : (b : Bool) → (if b then r ∷ receipts_for false n rs else receipts_for false n rs) ≡ [] → receipts_for false n rs ≡ []
    go true is = cc
    go false is = is

-- and its own chapter has it
not_ahead : (m : ℕ) (r : Receipt) (rs : List Receipt) → ((n : ℕ) → m ≤ n → receipts_for false n (r ∷ rs) ≡ []) → r.chapter < m
not_ahead m r rs none = go (nat_le m r.chapter) refl
  where
    some_is_there : (xs : List Receipt) → r ∷ xs ≡ [] → ⊥
    some_is_there xs e = cc

    go : (b : Bool) → nat_le m r.chapter ≡ b → r.chapter < m
    go true is = absurd (some_is_there (receipts_for false r.chapter rs) (ap (λ (b : Bool). if b then r ∷ receipts_for false r.chapter rs else receipts_for false r.chapter rs) (sym (same_number r.chapter)) ∙ none r.chapter (search rules)))
    go false is = search rules

-- where none is of a later chapter, all are of these
pub all_of : (m : ℕ) (rs : List Receipt) → ((n : ℕ) → m ≤ n → receipts_for false n rs ≡ []) → length rs ≡ sum_from 0 m rs
all_of m [] none = sym (none_from 0 m)
all_of m (r ∷ rs) none =
    ap suc (all_of m rs (λ n high. none_without n r rs (none n high)))
    ∙ sym (one_more 0 m r rs (omega arith) (let low = not_ahead m r rs none in omega (arith, low)))

-- a caller's tally has as many receipts as it has calls there
pub tally_count : (who n at : ℕ) (es : List Entry) → length (tally who n at es) ≡ count_by (λ (e : Entry). e.caller == who) es
tally_count who n at [] = refl
tally_count who n at (e ∷ es) = go (e.caller == who) (tally_count who n (suc at) es) ∙ sym (sum_by-cons (λ (x : Entry). cond (x.caller == who) 1 0) e es)
  where
    go : (b : Bool) → length (tally who n (suc at) es) ≡ count_by (λ (x : Entry). x.caller == who) es
        → length (if b then receipt_of n at e ∷ tally who n (suc at) es else tally who n (suc at) es) ≡ cond b 1 0 + count_by (λ (x : Entry). x.caller == who) es
    go true rest = omega (arith, rest)
    go false rest = omega (arith, rest)

-- where each chapter is settled, the receipts of them all are the calls of them all
pub calls_from : (k caller : ℕ) (cs : List ChapterValue) (sheaves : List SheafValue) → ((j : ℕ) (c : ChapterValue) → slice_get cs j ≡ Some c → (c.number ≡ k + j) × IsSettledBy sheaves c caller) → sum_from k (length cs) (receipts_by caller sheaves) ≡ calls_by caller cs
calls_from k caller [] sheaves h = refl
calls_from k caller (c ∷ cs) sheaves h =
    let number : c.number ≡ k = (h 0 c refl).0 ∙ omega arith in
    let here : length (receipts_for false k (receipts_by caller sheaves)) ≡ length (tally caller c.number 0 c.entries) = ap (λ (n : ℕ). length (receipts_for false n (receipts_by caller sheaves))) (sym number) ∙ ap length (h 0 c refl).1 in
    let mine = tally_count caller c.number 0 c.entries in
    let rest = calls_from (suc k) caller cs sheaves (λ j d there. (let n = (h (suc j) d there).0 in omega (arith, n), (h (suc j) d there).1)) in
    let both = sum_by-append (λ (e : Entry). cond (e.caller == caller) 1 0) c.entries (entries_of cs) in
    omega (arith, here, mine, rest, both)

-- all receipts of a caller are as many as the chapters have calls of it
pub once : (chapters : List ChapterValue) (sheaves : List SheafValue) → ((j : ℕ) (c : ChapterValue) → slice_get chapters j ≡ Some c → c.number ≡ j) → ((j : ℕ) (c : ChapterValue) → slice_get chapters j ≡ Some c → (caller : ℕ) → caller < caller_limit → IsSettledBy sheaves c caller)
    → ((n caller : ℕ) → length chapters ≤ n → receipts_for false n (receipts_by caller sheaves) ≡ []) → (caller : ℕ) → caller < caller_limit → length (receipts_by caller sheaves) ≡ calls_by caller chapters
once chapters sheaves numbered settled ahead caller low =
    all_of (length chapters) (receipts_by caller sheaves) (λ n high. ahead n caller high)
    ∙ calls_from 0 caller chapters sheaves (λ j c there. (let number = numbered j c there in omega (arith, number), settled j c there caller low))

-- where none waits, all that a keeper took stands once
pub once_kept : (layout : LayoutValue) (chapters : List ChapterValue) (sheaves : List SheafValue) (ws : List WaitingValue) (number before : ℕ) (last : SlaveValue) → AreJoined layout chapters number before last → AreKept chapters sheaves ws → length ws ≡ 0
    → (caller : ℕ) → caller < caller_limit → length (receipts_by caller sheaves) ≡ calls_by caller chapters
once_kept layout chapters sheaves [] number before last joined kept none =
    once chapters sheaves (numbers layout chapters number before last joined)
    (λ j c there caller low. kept.dropped j c there refl caller low) kept.future
once_kept layout chapters sheaves (w ∷ ws) number before last joined kept none = absurd (omega (arith, none))
