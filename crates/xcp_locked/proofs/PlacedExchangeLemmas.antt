-- Receipts that are stored as places and exchanges.
use Rattle.std.proofs.Common.{◌≡◌, ◌<◌, ℕ, zero, suc, List, [], ◌∷◌, ◌++◌, length, get_or, refl, ap, sym, arith}
use Rattle.std.specs.Prelude.{Some, None}
use Rattle.std.specs.List.{slice_get}
use Rattle.xcp_slave.specs.declared.Exchange.{Exchange}
use Rattle.xcp_locked.specs.declared.receipt.Receipt.{Receipt}
use Rattle.xcp_locked.specs.declared.receipts.Place.{Place}
use Rattle.xcp_locked.specs.Receipts.{receipt}
use Rattle.xcp_locked.specs.private.PlacedExchanges.{receipts_at}
use Rattle.xcp_locked.proofs.TallyLemmas.{none≢some, some_same}

-- there are as many as places
pub placed_length : (places : List Place) (xs : List Exchange) → length places ≡ length xs → length (receipts_at places xs) ≡ length places
placed_length [] [] h = refl
placed_length [] (x ∷ xs) h = refl
placed_length (p ∷ places) [] h = absurd (omega (arith, h))
placed_length (p ∷ places) (x ∷ xs) h = ap suc (placed_length places xs (omega (arith, h)))

-- a place and an exchange behind the others are a receipt behind the others
pub placed_more : (places : List Place) (xs : List Exchange) (p : Place) (x : Exchange) → length places ≡ length xs → receipts_at (places ++ p ∷ []) (xs ++ x ∷ []) ≡ receipts_at places xs ++ receipt p.chapter p.at x.request x.answer ∷ []
placed_more [] [] p x h = refl
placed_more [] (y ∷ xs) p x h = absurd (omega (arith, h))
placed_more (q ∷ places) [] p x h = absurd (omega (arith, h))
placed_more (q ∷ places) (y ∷ xs) p x h = ap (λ (l : List Receipt). receipt q.chapter q.at y.request y.answer ∷ l) (placed_more places xs p x (omega (arith, h)))

-- what stands at an index
pub placed_at : (places : List Place) (xs : List Exchange) (k : ℕ) (p : Place) (x : Exchange) → slice_get places k ≡ Some p → slice_get xs k ≡ Some x → slice_get (receipts_at places xs) k ≡ Some (receipt p.chapter p.at x.request x.answer)
placed_at [] xs k p x h g = absurd (none≢some p h)
placed_at (q ∷ places) [] k p x h g = absurd (none≢some x g)
placed_at (q ∷ places) (y ∷ xs) zero p x h g = let a : q ≡ p = some_same q p h in let b : y ≡ x = some_same y x g in cc
placed_at (q ∷ places) (y ∷ xs) (suc k) p x h g = placed_at places xs k p x h g

-- nothing stands where there is no place
pub no_place : (places : List Place) (xs : List Exchange) (k : ℕ) → slice_get places k ≡ None → slice_get (receipts_at places xs) k ≡ None
no_place [] xs k h = refl
no_place (q ∷ places) [] k h = refl
no_place (q ∷ places) (y ∷ xs) zero h = absurd (none≢some q (sym h))
no_place (q ∷ places) (y ∷ xs) (suc k) h = no_place places xs k h

-- nor where there is no exchange
pub no_exchange : (places : List Place) (xs : List Exchange) (k : ℕ) → slice_get xs k ≡ None → slice_get (receipts_at places xs) k ≡ None
no_exchange [] xs k h = refl
no_exchange (q ∷ places) [] k h = refl
no_exchange (q ∷ places) (y ∷ xs) zero h = absurd (none≢some y (sym h))
no_exchange (q ∷ places) (y ∷ xs) (suc k) h = no_exchange places xs k h

-- an element that is read within the list stands there
pub get_there : {X : Type 0} (l : List X) (k : ℕ) (x : X) → k < length l → x ≡ get_or l k x → slice_get l k ≡ Some x
get_there [] k x h e = absurd (omega (arith, h))
get_there (y ∷ l) zero x h e = ap Some (sym e)
get_there (y ∷ l) (suc k) x h e = get_there l k x (omega (arith, h)) e
