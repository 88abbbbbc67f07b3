-- The receipts that are compared, met one by one.
use Rattle.std.proofs.Common.{◌≡◌, ◌≤◌, ◌<◌, ℕ, zero, suc, ◌+◌, Bool, true, false, List, [], ◌∷◌, drop, take, length, cond, sym, refl, ap, ◌∙◌, arith}
use Rattle.std.specs.Prelude.{Option, Some, None}
use Rattle.std.specs.List.{slice_get}
use Rattle.xcp_locked.specs.declared.receipt.Receipt.{Receipt}
use Rattle.xcp_locked.specs.SettledReceipts.{compared, receipts_for}
use Rattle.xcp_locked.specs.private.PlacedExchanges.{receipts_ahead}

-- So many of them were met; the next one, if there is one, and those behind it are left.
pub record IsAt (all : List Receipt) (met : ℕ) (next : Option Receipt) (rest : List Receipt) : Type 0 where
  pub few : met ≤ length all
  pub left : drop met all ≡ receipts_ahead next rest

drop_get : {X : Type 0} (l : List X) (k : ℕ) → slice_get l k ≡ slice_get (drop k l) 0
drop_get [] zero = refl
drop_get [] (suc k) = refl
drop_get (x ∷ l) zero = refl
drop_get (x ∷ l) (suc k) = drop_get l k

first_ahead : (next : Option Receipt) (rest : List Receipt) → slice_get (receipts_ahead next rest) 0 ≡ next
first_ahead None rest = refl
first_ahead (Some r) rest = refl

-- what stands at the place of the next one
pub stands : (all : List Receipt) (met : ℕ) (next : Option Receipt) (rest : List Receipt) → IsAt all met next rest → slice_get all met ≡ next
stands all met next rest is = drop_get all met ∙ (ap (λ (l : List Receipt). slice_get l 0) is.left ∙ first_ahead next rest)

-- where none was met yet
pub at_first : (all : List Receipt) (next : Option Receipt) (rest : List Receipt) → all ≡ receipts_ahead next rest → IsAt all 0 next rest
at_first all next rest is = record { few = omega arith; left = is }

nil_cons : {X : Type 0} {y : X} {ys : List X} → [] ≡ y ∷ ys → ⊥
nil_cons e = cc

drop_one : (l more : List Receipt) (k : ℕ) (x : Receipt) → drop k l ≡ x ∷ more → (k + 1 ≤ length l) × (drop (k + 1) l ≡ more)
drop_one [] more zero x h = absurd (nil_cons h)
drop_one [] more (suc k) x h = absurd (nil_cons h)
drop_one (y ∷ l) more zero x h = (omega arith, cc)
drop_one (y ∷ l) more (suc k) x h = let d = drop_one l more k x h in let less = d.0 in let e : suc k + 1 ≡ suc (k + 1) = omega arith in (omega (arith, less), ap (λ (n : ℕ). drop n (y ∷ l)) e ∙ d.1)

-- where the next one was met
pub at_next : (all : List Receipt) (met : ℕ) (r : Receipt) (rest : List Receipt) (next : Option Receipt) (behind : List Receipt) → IsAt all met (Some r) rest → rest ≡ receipts_ahead next behind → IsAt all (met + 1) next behind
at_next all met r rest next behind is so = let d = drop_one all rest met r is.left in record { few = d.0; left = d.1 ∙ so }

-- where there is a next one, not all were met
pub more_left : (all : List Receipt) (met : ℕ) (r : Receipt) (rest : List Receipt) → IsAt all met (Some r) rest → met < length all
more_left all met r rest is = let less = (drop_one all rest met r is.left).0 in omega (arith, less)

take_whole : {X : Type 0} (l : List X) (k : ℕ) → drop k l ≡ [] → take k l ≡ l
take_whole [] zero h = refl
take_whole [] (suc k) h = refl
take_whole (x ∷ l) zero h = absurd (nil_cons (sym h))
take_whole (x ∷ l) (suc k) h = ap (λ (z : List _). x ∷ z) (take_whole l k h)

-- where there is none, all were met
pub all_met : (all : List Receipt) (met : ℕ) (rest : List Receipt) → IsAt all met None rest → take met all ≡ all
all_met all met rest is = take_whole all met is.left

-- a receipt that is compared comes next
pub comes_next : (later : Bool) (chapter : ℕ) (left behind : List Receipt) (r : Receipt) → left ≡ r ∷ behind → compared later chapter r.chapter ≡ true → receipts_for later chapter left ≡ r ∷ receipts_for later chapter behind
comes_next later chapter left behind r is own = ap (receipts_for later chapter) is ∙ ap (λ (b : Bool). cond b (r ∷ receipts_for later chapter behind) (receipts_for later chapter behind)) own

-- one that isn't is passed over
pub passes_over : (later : Bool) (chapter : ℕ) (left behind : List Receipt) (r : Receipt) → left ≡ r ∷ behind → compared later chapter r.chapter ≡ false → receipts_for later chapter left ≡ receipts_for later chapter behind
passes_over later chapter left behind r is own = ap (receipts_for later chapter) is ∙ ap (λ (b : Bool). cond b (r ∷ receipts_for later chapter behind) (receipts_for later chapter behind)) own

-- where nothing is left
pub none_left : (later : Bool) (chapter : ℕ) (left : List Receipt) → length left ≡ 0 → receipts_for later chapter left ≡ []
none_left later chapter [] h = refl
none_left later chapter (r ∷ left) h = absurd (omega (arith, h))
