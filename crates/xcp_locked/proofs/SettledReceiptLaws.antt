-- A tally has one receipt for each entry of its caller.
use Rattle.std.proofs.Common.{◌≡◌, ◌<◌, ℕ, zero, suc, ◌+◌, Bool, true, false, List, [], ◌∷◌, cond, sym, refl, ap, ◌∙◌, arith}
use Rattle.std.specs.Prelude.{◌==◌, Some}
use Rattle.std.specs.List.{slice_get}
use Rattle.std.proofs.lemmas.Bool.Decides.{Decides-eqb}
use Rattle.xcp_slave.specs.declared.Request.{Request}
use Rattle.xcp_slave.specs.Outcomes.{Answer}
use Rattle.xcp_trace.specs.declared.Entry.{Entry}
use Rattle.xcp_locked.specs.declared.receipt.Receipt.{Receipt}
use Rattle.xcp_locked.specs.Journal.{entry}
use Rattle.xcp_locked.specs.Receipts.{receipt, receipt_of}
use Rattle.xcp_locked.specs.SettledReceipts.{tally}
use Rattle.xcp_locked.proofs.TallyLemmas.{none≢some, some_same, tally_mine}

-- where the entry of a receipt of this chapter stands, in a list of entries of which the first has this place
abbrev pub StandsIn : ℕ → ℕ → ℕ → List Entry → Receipt → Type 0
StandsIn who ch at es r = (p : ℕ) × (r.at ≡ at + p) × (slice_get es p ≡ Some (entry who r.request r.answer)) × (r.chapter ≡ ch)

head_stands : (who ch at : ℕ) (e : Entry) (es : List Entry) (r : Receipt) → e.caller ≡ who → Some (receipt_of ch at e) ≡ Some r → StandsIn who ch at (e ∷ es) r
head_stands who ch at e es r mine h =
    let s : receipt_of ch at e ≡ r = some_same (receipt_of ch at e) r h in
    let place : at ≡ r.at = ap (λ (x : Receipt). x.at) s in
    (0, omega (arith, place), ap (λ (w : ℕ). Some (entry w e.exchange.request e.exchange.answer)) mine ∙ ap (λ (x : Receipt). Some (entry who x.request x.answer)) s, sym (ap (λ (x : Receipt). x.chapter) s))

later_stands : (who ch at : ℕ) (e : Entry) (es : List Entry) (r : Receipt) → StandsIn who ch (suc at) es r → StandsIn who ch at (e ∷ es) r
later_stands who ch at e es r h = let place = h.1 in (suc h.0, omega (arith, place), h.2, h.3)

stands_either : (who ch at : ℕ) (e : Entry) (es : List Entry) (i : ℕ) (r : Receipt) (b : Bool) → (b ≡ true → e.caller ≡ who) → ((j : ℕ) → slice_get (tally who ch (suc at) es) j ≡ Some r → StandsIn who ch (suc at) es r) → slice_get (cond b (receipt_of ch at e ∷ tally who ch (suc at) es) (tally who ch (suc at) es)) i ≡ Some r → StandsIn who ch at (e ∷ es) r
stands_either who ch at e es zero r true mine later h = head_stands who ch at e es r (mine refl) h
stands_either who ch at e es (suc i) r true mine later h = later_stands who ch at e es r (later i h)
stands_either who ch at e es i r false mine later h = later_stands who ch at e es r (later i h)

-- the entry of each receipt of a tally stands at its place
pub each_stands : (who ch at : ℕ) (es : List Entry) (i : ℕ) (r : Receipt) → slice_get (tally who ch at es) i ≡ Some r → StandsIn who ch at es r
each_stands who ch at [] i r h = absurd (none≢some r h)
each_stands who ch at (e ∷ es) i r h = stands_either who ch at e es i r (e.caller == who) (λ t. (Decides-eqb e.caller who).0 t) (λ j g. each_stands who ch (suc at) es j r g) h

behind : (x : Receipt) (b : Bool) (l : List Receipt) (i : ℕ) (r : Receipt) → slice_get l i ≡ Some r → (j : ℕ) × (slice_get (cond b (x ∷ l) l) j ≡ Some r)
behind x true l i r h = (suc i, h)
behind x false l i r h = (i, h)

-- each entry of the caller has a receipt in its tally
pub all_have : (who ch at : ℕ) (es : List Entry) (p : ℕ) (request : Request) (answer : Answer) → slice_get es p ≡ Some (entry who request answer) → (i : ℕ) × (slice_get (tally who ch at es) i ≡ Some (receipt ch (at + p) request answer))
all_have who ch at [] p request answer h = absurd (none≢some _ h)
all_have who ch at (e ∷ es) zero request answer h =
    let s : e ≡ entry who request answer = some_same e (entry who request answer) h in
    let n : at ≡ at + 0 = omega arith in (
      0,
      ap (λ (z : List Receipt). slice_get z 0) (tally_mine who ch at (e ∷ es) es e refl (ap (λ (x : Entry). x.caller) s))
          ∙ (ap (λ (x : Entry). Some (receipt_of ch at x)) s ∙ ap (λ (k : ℕ). Some (receipt ch k request answer)) n),
    )
all_have who ch at (e ∷ es) (suc p) request answer h =
    let g = all_have who ch (suc at) es p request answer h in
    let n : suc at + p ≡ at + suc p = omega arith in
    behind (receipt_of ch at e) (e.caller == who) (tally who ch (suc at) es) g.0 (receipt ch (at + suc p) request answer) (g.1 ∙ ap (λ (k : ℕ). Some (receipt ch k request answer)) n)

rise_either : (who ch at : ℕ) (e : Entry) (es : List Entry) (i : ℕ) (r s : Receipt) (b : Bool) → ((j : ℕ) → slice_get (tally who ch (suc at) es) j ≡ Some r → slice_get (tally who ch (suc at) es) (suc j) ≡ Some s → r.at < s.at) → slice_get (cond b (receipt_of ch at e ∷ tally who ch (suc at) es) (tally who ch (suc at) es)) i ≡ Some r → slice_get (cond b (receipt_of ch at e ∷ tally who ch (suc at) es) (tally who ch (suc at) es)) (suc i) ≡ Some s → r.at < s.at
rise_either who ch at e es zero r s true later g h =
    let first : at ≡ r.at = ap (λ (x : Receipt). x.at) (some_same (receipt_of ch at e) r g) in
    let next = (each_stands who ch (suc at) es 0 s h).1 in
    omega (arith, first, next)
rise_either who ch at e es (suc i) r s true later g h = later i g h
rise_either who ch at e es i r s false later g h = later i g h

-- the places of a tally rise
pub places_rise : (who ch at : ℕ) (es : List Entry) (i : ℕ) (r s : Receipt) → slice_get (tally who ch at es) i ≡ Some r → slice_get (tally who ch at es) (suc i) ≡ Some s → r.at < s.at
places_rise who ch at [] i r s g h = absurd (none≢some r g)
places_rise who ch at (e ∷ es) i r s g h = rise_either who ch at e es i r s (e.caller == who) (λ j a b. places_rise who ch (suc at) es j r s a b) g h

-- the same of a caller that is settled

-- the entry at the place of a settled caller's receipt is the caller's, with its request and answer
pub each_settled : (journal : List Entry) (who ch : ℕ) (receipts : List Receipt) (i : ℕ) (r : Receipt) → receipts ≡ tally who ch 0 journal → slice_get receipts i ≡ Some r → (r.chapter ≡ ch) × (slice_get journal r.at ≡ Some (entry who r.request r.answer))
each_settled journal who ch receipts i r settled h =
    let g = each_stands who ch 0 journal i r (ap (λ (z : List Receipt). slice_get z i) (sym settled) ∙ h) in
    let place = g.1 in
    let n : r.at ≡ g.0 = omega (arith, place) in
    (g.3, ap (λ (p : ℕ). slice_get journal p) n ∙ g.2)

-- each entry of a settled caller has a receipt with the entry's place, request and answer
pub all_settled : (journal : List Entry) (who ch : ℕ) (receipts : List Receipt) (place : ℕ) (request : Request) (answer : Answer) → receipts ≡ tally who ch 0 journal → slice_get journal place ≡ Some (entry who request answer) → (i : ℕ) × (slice_get receipts i ≡ Some (receipt ch place request answer))
all_settled journal who ch receipts place request answer settled h =
    let g = all_have who ch 0 journal place request answer h in
    let n : 0 + place ≡ place = omega arith in
    (g.0, ap (λ (z : List Receipt). slice_get z g.0) settled ∙ (g.1 ∙ ap (λ (k : ℕ). Some (receipt ch k request answer)) n))

-- the places of a settled caller's receipts rise
pub rise_settled : (journal : List Entry) (who ch : ℕ) (receipts : List Receipt) (i : ℕ) (r s : Receipt) → receipts ≡ tally who ch 0 journal → slice_get receipts i ≡ Some r → slice_get receipts (suc i) ≡ Some s → r.at < s.at
rise_settled journal who ch receipts i r s settled g h =
    places_rise who ch 0 journal i r s (ap (λ (z : List Receipt). slice_get z i) (sym settled) ∙ g) (ap (λ (z : List Receipt). slice_get z (suc i)) (sym settled) ∙ h)
