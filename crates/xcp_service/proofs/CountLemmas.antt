-- How many calls each caller has, counted entry by entry.
use Rattle.std.proofs.Common.{◌≡◌, ◌≤◌, ◌<◌, ◌+◌, ℕ, zero, suc, replicate, Bool, true, false, List, [], ◌∷◌, ◌==◌, refl, sym, ap, ◌∙◌, subst, length, get_or, set, arith, if◌then◌else◌}
use Rattle.std.specs.List.{list_all}
use Rattle.std.proofs.lemmas.List.{get_or-set_other, get_or-set_same, length-set}
use Rattle.xcp_trace.specs.declared.Entry.{Entry}
use Rattle.xcp_locked.specs.SettledReceipts.{tally}
use Rattle.xcp_locked.specs.Receipts.{receipt_of}
use Rattle.xcp_service.specs.Keeping.{caller_limit}
use Rattle.xcp_service.proofs.AmongLemmas.{differ_from, same_by}
use Rattle.xcp_service.proofs.KeepingLemmas.{all_zero}

-- Of each caller: what was counted, and its calls among those that are left, are all its calls. No more were counted than were seen.
pub record IsCounting (number : ℕ) (all rest : List Entry) (at : ℕ) (counts : List ℕ) : Type 0 where
  pub sum : (caller : ℕ) → caller < caller_limit → get_or counts caller 0 + length (tally caller number at rest) ≡ length (tally caller number 0 all)
  pub few : (caller : ℕ) → get_or counts caller 0 ≤ at
  pub seen : at + length rest ≡ length all
  pub long : length counts ≡ 256

abbrev pub zeros_of : ℕ → List ℕ
zeros_of n = replicate n 0

zero_list : (n : ℕ) → list_all (λ m. m == 0) (zeros_of n) ≡ true
zero_list zero = refl
zero_list (suc n) = zero_list n

-- what is counted of nobody
pub zero_all : (n k : ℕ) → get_or (zeros_of n) k 0 ≡ 0
zero_all n k = all_zero (zeros_of n) (zero_list n) k

zeros : (xs : List ℕ) → ((k : ℕ) → get_or xs k 0 ≡ 0) → (k : ℕ) → get_or xs k 0 ≤ 0
zeros xs h k = let none = h k in omega (arith, none)

-- before the first entry, 256 counts of 0 are right
pub counting_none : (number : ℕ) (all : List Entry) (counts : List ℕ) → length counts ≡ 256 → ((k : ℕ) → get_or counts k 0 ≡ 0) → IsCounting number all all 0 counts
counting_none number all counts long none_yet = record {
  sum = λ caller low. let none = none_yet caller in omega (arith, none);
  few = zeros counts none_yet;
  seen = omega arith;
  long = long;
}

-- with the next entry one more is counted of its caller, whose number is below 256
pub counting_more : (number : ℕ) (all rest more : List Entry) (at : ℕ) (counts : List ℕ) (e : Entry) → IsCounting number all rest at counts → rest ≡ e ∷ more → e.caller < 256 → IsCounting number all more (at + 1) (set counts e.caller (get_or counts e.caller 0 + 1))
counting_more number all rest more at counts e h is under_limit = record {
  sum = λ caller within. one caller within (e.caller == caller) refl (sym (ap (λ (l : List Entry). get_or counts caller 0 + length (tally caller number at l)) is) ∙ h.sum caller within);
  few = λ caller. under caller (e.caller == caller) refl;
  seen = let l = ap length is in let was = h.seen in omega (arith, l, was);
  long = length-set counts e.caller (get_or counts e.caller 0 + 1) ∙ h.long;
}
  where
    low : e.caller < length counts
    low = let long = h.long in omega (arith, long, under_limit)

    next : (caller : ℕ) → tally caller number (suc at) more ≡ tally caller number (at + 1) more
    next caller = let n : suc at ≡ at + 1 = omega arith in ap (λ (k : ℕ). tally caller number k more) n

    one : (caller : ℕ) → caller < caller_limit → (b : Bool) → (e.caller == caller) ≡ b
        → get_or counts caller 0 + length (if b then receipt_of number at e ∷ tally caller number (suc at) more else tally caller number (suc at) more) ≡ length (tally caller number 0 all)
        → get_or (set counts e.caller (get_or counts e.caller 0 + 1)) caller 0 + length (tally caller number (at + 1) more) ≡ length (tally caller number 0 all)
    one caller within true same was =
        let who = same_by e.caller caller same in
        let set_is = get_or-set_same counts e.caller (get_or counts e.caller 0 + 1) 0 low in
        let mine : get_or (set counts e.caller (get_or counts e.caller 0 + 1)) caller 0 ≡ get_or counts caller 0 + 1 =
        subst (λ (k : ℕ). get_or (set counts e.caller (get_or counts e.caller 0 + 1)) k 0 ≡ get_or counts k 0 + 1) who set_is in
        let l = ap length (next caller) in
        omega (arith, mine, l, was)
    one caller within false other was =
        let mine = get_or-set_other counts e.caller caller (get_or counts e.caller 0 + 1) 0 (λ e2. differ_from e.caller caller other (sym e2)) in
        let l = ap length (next caller) in
        omega (arith, mine, l, was)

    under : (caller : ℕ) (b : Bool) → (e.caller == caller) ≡ b → get_or (set counts e.caller (get_or counts e.caller 0 + 1)) caller 0 ≤ at + 1
    under caller true same =
        let who = same_by e.caller caller same in
        let set_is = get_or-set_same counts e.caller (get_or counts e.caller 0 + 1) 0 low in
        let was = h.few e.caller in
        subst (λ (k : ℕ). get_or (set counts e.caller (get_or counts e.caller 0 + 1)) k 0 ≤ at + 1) who (omega (arith, set_is, was))
    under caller false other =
        let mine = get_or-set_other counts e.caller caller (get_or counts e.caller 0 + 1) 0 (λ e2. differ_from e.caller caller other (sym e2)) in
        let was = h.few caller in
        omega (arith, mine, was)

-- where none is left, all are counted
pub counting_all : (number : ℕ) (all rest : List Entry) (at : ℕ) (counts : List ℕ) → IsCounting number all rest at counts → length rest ≡ 0 → (caller : ℕ) → caller < caller_limit → get_or counts caller 0 ≡ length (tally caller number 0 all)
counting_all number all [] at counts h none caller low = let sum = h.sum caller low in omega (arith, sum)
counting_all number all (e ∷ rest) at counts h none caller low = absurd (omega (arith, none))
