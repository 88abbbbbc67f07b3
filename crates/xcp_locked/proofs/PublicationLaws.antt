-- What is published of a run, and of its beginnings.
use Rattle.std.proofs.Common.{◌≡◌, ◌≤◌, ◌<◌, ◌↔◌, ℕ, zero, suc, ◌+◌, inl, inr, List, [], ◌∷◌, ◌++◌, length, take, sym, ap, ◌∙◌, subst, arith, Some}
use Rattle.std.specs.List.{slice_get}
use Rattle.xcp_slave.specs.declared.Exchange.{Exchange}
use Rattle.xcp_slave.specs.SlaveValue.{SlaveValue}
use Rattle.xcp_slave.specs.Run.{Run}
use Rattle.xcp_slave.proofs.StepLaws.{answers-single}
use Rattle.xcp_locked.specs.Publications.{Publication, publication, image_of, LeadsThrough, Changes, Published}
use Rattle.xcp_locked.proofs.PublicationLemmas.{last_image, leads_to}
use Rattle.xcp_locked.proofs.TallyLemmas.{none≢some, some_same}

-- a beginning of the run leads through a beginning of the states
leads_in_part : (v : SlaveValue) (xs : List Exchange) (k : ℕ) (states first : List SlaveValue) → LeadsThrough v xs states → LeadsThrough v (take k xs) first → first ≡ take k states
leads_in_part v xs zero states first h g = g
leads_in_part v [] (suc k) states first h g = g ∙ sym (ap (take (suc k)) h)
leads_in_part v (x ∷ xs) (suc k) states first h g =
    let same = answers-single v x.request x.answer x.answer g.0 h.0 g.2 h.2 in
    let rest = leads_in_part h.0 xs k h.1 g.1 h.3 (subst (λ (m : SlaveValue). LeadsThrough m (take k xs) g.1) same.1 g.3) in
    g.4 ∙ (ap (λ (m : SlaveValue). m ∷ g.1) same.1 ∙ (ap (λ (l : List SlaveValue). h.0 ∷ l) rest ∙ sym (ap (take (suc k)) h.4)))

leads_once : (v : SlaveValue) (xs : List Exchange) (states first : List SlaveValue) → LeadsThrough v xs states → LeadsThrough v xs first → first ≡ states
leads_once v [] states first h g = g ∙ sym h
leads_once v (x ∷ xs) states first h g =
    let same = answers-single v x.request x.answer x.answer g.0 h.0 g.2 h.2 in
    let rest = leads_once h.0 xs h.1 g.1 h.3 (subst (λ (m : SlaveValue). LeadsThrough m xs g.1) same.1 g.3) in
    g.4 ∙ (ap (λ (m : SlaveValue). m ∷ g.1) same.1 ∙ (ap (λ (l : List SlaveValue). h.0 ∷ l) rest ∙ sym h.4))

changes_once : (before : List ℕ) (at : ℕ) (later : List SlaveValue) (list others : List Publication) → Changes before at later list → Changes before at later others → list ≡ others
changes_once before at [] list others h g = h ∙ sym g
changes_once before at (v ∷ later) list others (inl h) (inl g) = changes_once before (suc at) later list others h.1 g.1
changes_once before at (v ∷ later) list others (inl h) (inr g) = absurd (g.0 h.0)
changes_once before at (v ∷ later) list others (inr h) (inl g) = absurd (h.0 g.0)
changes_once before at (v ∷ later) list others (inr h) (inr g) = h.3 ∙ (ap (λ (l : List Publication). publication at (image_of v) ∷ l) (changes_once (image_of v) (suc at) later h.1 g.1 h.2 g.2) ∙ sym g.3)

-- one list only is what is published of a slave's exchanges
pub published_once : (v : SlaveValue) (xs : List Exchange) (list others : List Publication) → Published v xs list → Published v xs others → list ≡ others
published_once v xs list others p q =
    let states = leads_once v xs p.states q.states p.run q.run in
    let changed = changes_once (image_of v) 1 p.states p.changed q.changed p.changes (subst (λ (l : List SlaveValue). Changes (image_of v) 1 l q.changed) states q.changes) in
    p.is ∙ (ap (λ (l : List Publication). publication 0 (image_of v) ∷ l) changed ∙ sym q.is)

-- the last one, behind a publication p
changes_end : (p : Publication) (at : ℕ) (later : List SlaveValue) (list : List Publication) → Changes p.image at later list → (front : List Publication) × (place : ℕ) × (p ∷ list ≡ front ++ publication place (last_image p.image later) ∷ [])
changes_end p at [] list h = ([], p.place, ap (λ (l : List Publication). p ∷ l) h)
changes_end p at (v ∷ later) list (inl h) =
    let e = changes_end p (suc at) later list h.1 in
    (e.0, e.1, e.2 ∙ ap (λ (z : List ℕ). e.0 ++ publication e.1 (last_image z later) ∷ []) (sym h.0))
changes_end p at (v ∷ later) list (inr h) =
    let e = changes_end (publication at (image_of v)) (suc at) later h.1 h.2 in
    (p ∷ e.0, e.1, ap (λ (l : List Publication). p ∷ l) (h.3 ∙ e.2))

-- the newest publication has the image of the slave that the run leads to
pub published_end : (v : SlaveValue) (xs : List Exchange) (w : SlaveValue) (list : List Publication) → Published v xs list → Run v xs w → (front : List Publication) × (place : ℕ) × (list ≡ front ++ publication place (image_of w) ∷ [])
published_end v xs w list p r =
    let e = changes_end (publication 0 (image_of v)) 1 p.states p.changed p.changes in
    (e.0, e.1, p.is ∙ (e.2 ∙ ap (λ (z : List ℕ). e.0 ++ publication e.1 z ∷ []) (leads_to v xs p.states w p.run r)))

-- no change stands before the first place
changes_from : (before : List ℕ) (at : ℕ) (later : List SlaveValue) (list : List Publication) (n : ℕ) (p : Publication) → Changes before at later list → slice_get list n ≡ Some p → at ≤ p.place
changes_from before at [] list n p h is = absurd (none≢some p (ap (λ (l : List Publication). slice_get l n) (sym h) ∙ is))
changes_from before at (v ∷ later) list n p (inl h) is = let e = changes_from before (suc at) later list n p h.1 is in omega (arith, e)
changes_from before at (v ∷ later) list zero p (inr h) is =
    let e : at ≡ p.place = ap (λ (q : Publication). q.place) (some_same _ _ (ap (λ (l : List Publication). slice_get l zero) (sym h.3) ∙ is)) in
    omega (arith, e)
changes_from before at (v ∷ later) list (suc n) p (inr h) is =
    let e = changes_from (image_of v) (suc at) later h.1 n p h.2 (ap (λ (l : List Publication). slice_get l (suc n)) (sym h.3) ∙ is) in
    omega (arith, e)

changes_in_part : (before : List ℕ) (at k : ℕ) (later : List SlaveValue) (list others : List Publication) (n : ℕ) (p : Publication) → Changes before at later list → Changes before at (take k later) others → slice_get list n ≡ Some p → p.place < at + k ↔ n < length others
changes_in_part before at zero later list others n p h g is =
    let low = changes_from before at later list n p h is in
    let none : length others ≡ 0 = ap length g in
    ((λ l. absurd (omega (arith, low, l))), (λ l. absurd (omega (arith, none, l))))
changes_in_part before at (suc k) [] list others n p h g is = absurd (none≢some p (ap (λ (l : List Publication). slice_get l n) (sym h) ∙ is))
changes_in_part before at (suc k) (v ∷ later) list others n p (inl h) (inl g) is =
    let e = changes_in_part before (suc at) k later list others n p h.1 g.1 is in
    ((λ l. e.0 (omega (arith, l))), (λ l. let m = e.1 l in omega (arith, m)))
changes_in_part before at (suc k) (v ∷ later) list others n p (inl h) (inr g) is = absurd (g.0 h.0)
changes_in_part before at (suc k) (v ∷ later) list others n p (inr h) (inl g) is = absurd (h.0 g.0)
changes_in_part before at (suc k) (v ∷ later) list others zero p (inr h) (inr g) is =
    let e : at ≡ p.place = ap (λ (q : Publication). q.place) (some_same _ _ (ap (λ (l : List Publication). slice_get l zero) (sym h.3) ∙ is)) in
    let some : length others ≡ suc (length g.1) = ap length g.3 in
    ((λ l. omega (arith, some)), (λ l. omega (arith, e)))
changes_in_part before at (suc k) (v ∷ later) list others (suc n) p (inr h) (inr g) is =
    let e = changes_in_part (image_of v) (suc at) k later h.1 g.1 n p h.2 g.2 (ap (λ (l : List Publication). slice_get l (suc n)) (sym h.3) ∙ is) in
    let some : length others ≡ suc (length g.1) = ap length g.3 in
    ((λ l. let m = e.0 (omega (arith, l)) in omega (arith, m, some)), (λ l. let m = e.1 (omega (arith, l, some)) in omega (arith, m)))

-- after k exchanges there are more than n publications exactly where the place of number n was reached
pub published_in_part : (v : SlaveValue) (xs : List Exchange) (list others : List Publication) (k n : ℕ) (p : Publication) → Published v xs list → Published v (take k xs) others → slice_get list n ≡ Some p → p.place ≤ k ↔ n < length others
published_in_part v xs list others k zero p a b is =
    let e : 0 ≡ p.place = ap (λ (q : Publication). q.place) (some_same _ _ (ap (λ (l : List Publication). slice_get l zero) (sym a.is) ∙ is)) in
    let some : length others ≡ suc (length b.changed) = ap length b.is in
    ((λ l. omega (arith, some)), (λ l. omega (arith, e)))
published_in_part v xs list others k (suc n) p a b is =
    let first = leads_in_part v xs k a.states b.states a.run b.run in
    let e = changes_in_part (image_of v) 1 k a.states a.changed b.changed n p a.changes (subst (λ (l : List SlaveValue). Changes (image_of v) 1 l b.changed) first b.changes) (ap (λ (l : List Publication). slice_get l (suc n)) (sym a.is) ∙ is) in
    let some : length others ≡ suc (length b.changed) = ap length b.is in
    ((λ l. let m = e.0 (omega (arith, l)) in omega (arith, m, some)), (λ l. let m = e.1 (omega (arith, l, some)) in omega (arith, m)))
