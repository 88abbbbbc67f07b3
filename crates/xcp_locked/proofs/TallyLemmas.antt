-- How a caller's receipts meet its tally, entry by entry.
use Rattle.std.proofs.Common.{◌≡◌, ℕ, zero, suc, ◌+◌, Bool, List, [], ◌∷◌, ◌++◌, sym, refl, ap, ◌∙◌, subst, cond, length, arith, eq-eqb, ne_eqb, take, ◌<◌, ◌≤◌, append_assoc}
use Rattle.std.specs.Prelude.{Some, None}
use Rattle.std.specs.List.{slice_get}
use Rattle.xcp_trace.specs.declared.Entry.{Entry}
use Rattle.xcp_locked.specs.declared.receipt.Receipt.{Receipt}
use Rattle.xcp_locked.specs.Receipts.{receipt_of}
use Rattle.xcp_locked.specs.SettledReceipts.{tally, DifferAt}

-- None is no Some
pub none≢some : {X : Type 0} (x : X) → None ≡ Some x → ⊥
none≢some x e = cc

-- where two Somes are equal, their values are
pub some_same : {X : Type 0} (x y : X) → Some x ≡ Some y → x ≡ y
some_same x y e = cc

-- within the list an element stands
pub within : {X : Type 0} (l : List X) (k : ℕ) → k < length l → (x : X) × (slice_get l k ≡ Some x)
within [] k h = absurd (omega arith)
within (x ∷ l) zero h = (x, refl)
within (x ∷ l) (suc k) h = within l k (omega arith)

take_step : {X : Type 0} (l : List X) (k : ℕ) (x : X) → slice_get l k ≡ Some x → take (suc k) l ≡ take k l ++ x ∷ []
take_step [] k x h = cc
take_step (y ∷ ys) zero x h = let e : y ≡ x = cc in ap (λ z. z ∷ []) e
take_step (y ∷ ys) (suc k) x h = ap (λ (z : List _). y ∷ z) (take_step ys k x h)

-- an entry of this caller comes next
pub tally_mine : (who ch at : ℕ) (rest more : List Entry) (e : Entry) → rest ≡ e ∷ more → e.caller ≡ who → tally who ch at rest ≡ receipt_of ch at e ∷ tally who ch (suc at) more
tally_mine who ch at rest more e is mine =
    ap (tally who ch at) is
    ∙ ap (λ (b : Bool). cond b (receipt_of ch at e ∷ tally who ch (suc at) more) (tally who ch (suc at) more)) (eq-eqb e.caller who mine)

-- an entry of another caller comes next
tally_other : (who ch at : ℕ) (rest more : List Entry) (e : Entry) → rest ≡ e ∷ more → ¬ (e.caller ≡ who) → tally who ch at rest ≡ tally who ch (suc at) more
tally_other who ch at rest more e is other =
    ap (tally who ch at) is
    ∙ ap (λ (b : Bool). cond b (receipt_of ch at e ∷ tally who ch (suc at) more) (tally who ch (suc at) more)) (ne_eqb e.caller who other)

-- The tally is the first k receipts, and then what the rest of the entries gives, of which the first has this place.
abbrev pub Agrees : ℕ → ℕ → ℕ → ℕ → List Entry → List Receipt → List Entry → Type 0
Agrees who ch at k js xs rest = tally who ch 0 js ≡ take k xs ++ tally who ch at rest

-- receipts that agree with a tally still do behind an entry of another caller
pub skips : (who ch at k : ℕ) (js : List Entry) (xs : List Receipt) (rest more : List Entry) (e : Entry) → Agrees who ch at k js xs rest → rest ≡ e ∷ more → ¬ (e.caller ≡ who) → Agrees who ch (at + 1) k js xs more
skips who ch at k js xs rest more e so is other =
    let n : suc at ≡ at + 1 = omega arith in
    subst (λ (m : ℕ). Agrees who ch m k js xs more) n (so ∙ ap (λ (z : List Receipt). take k xs ++ z) (tally_other who ch at rest more e is other))

-- receipts that agree with a tally agree by one more behind an entry whose receipt is the next of them
pub meets : (who ch at k : ℕ) (js : List Entry) (xs : List Receipt) (rest more : List Entry) (e : Entry) → Agrees who ch at k js xs rest → rest ≡ e ∷ more → e.caller ≡ who → slice_get xs k ≡ Some (receipt_of ch at e) → Agrees who ch (at + 1) (k + 1) js xs more
meets who ch at k js xs rest more e so is mine same =
    let n : suc at ≡ at + 1 = omega arith in
    let m : suc k ≡ k + 1 = omega arith in
    let next : List Receipt = tally who ch (suc at) more in
    subst (λ (j : ℕ). Agrees who ch (at + 1) j js xs more) m (subst (λ (j : ℕ). Agrees who ch j (suc k) js xs more) n
    (so ∙ (ap (λ (z : List Receipt). take k xs ++ z) (tally_mine who ch at rest more e is mine)
    ∙ (sym (append_assoc (take k xs) (receipt_of ch at e ∷ []) next) ∙ ap (λ (z : List Receipt). z ++ next) (sym (take_step xs k (receipt_of ch at e) same))))))

differ : (xs : List Receipt) (k : ℕ) (rest : List Receipt) → k ≤ length xs → ¬ (slice_get xs k ≡ slice_get rest 0) → DifferAt k xs (take k xs ++ rest)
differ [] zero [] le ne = (refl, ne)
differ [] zero (y ∷ rest) le ne = (refl, ne)
differ (x ∷ xs) zero [] le ne = (refl, ne)
differ (x ∷ xs) zero (y ∷ rest) le ne = (refl, ne)
differ [] (suc k) rest le ne = absurd (omega arith)
differ (x ∷ xs) (suc k) rest le ne = let d = differ xs k rest (omega arith) ne in (ap (λ (z : List Receipt). x ∷ z) d.0, d.1)

-- what stands at the next place is not the receipt of this entry
pub wrong : (who ch at k : ℕ) (js : List Entry) (xs : List Receipt) (rest more : List Entry) (e : Entry) → Agrees who ch at k js xs rest → k ≤ length xs → rest ≡ e ∷ more → e.caller ≡ who → ¬ (slice_get xs k ≡ Some (receipt_of ch at e)) → DifferAt k xs (tally who ch 0 js)
wrong who ch at k js xs rest more e so le is mine ne =
    subst (λ (z : List Receipt). DifferAt k xs z) (sym so)
    (differ xs k (tally who ch at rest) le (λ same. ne (same ∙ ap (λ (z : List Receipt). slice_get z 0) (tally_mine who ch at rest more e is mine))))

-- the tally ends before the receipts do
pub too_many : (who ch at k : ℕ) (js : List Entry) (xs : List Receipt) (rest : List Entry) → Agrees who ch at k js xs rest → k ≤ length xs → length rest ≡ 0 → k < length xs → DifferAt k xs (tally who ch 0 js)
too_many who ch at k js xs [] so le none more =
    let r = within xs k more in
    subst (λ (z : List Receipt). DifferAt k xs z) (sym so)
    (differ xs k [] le (λ same. none≢some r.0 (sym (sym r.1 ∙ same))))
too_many who ch at k js xs (e ∷ rest) so le none more = absurd (omega (arith, none))
