-- Where a write is denied, and where it is refused as protected.
use Rattle.std.proofs.Common.{◌≡◌, ℕ, ◌<◌, Bool, true, false, inl, inr, length, Option, Some, None, Result, Ok, Err, ap, sym, ◌∙◌, arith, refl, subst}
use Rattle.std.specs.Prelude.{◌↔◌, ◌==◌, if◌then◌else◌}
use Rattle.std.proofs.lemmas.Bool.Decides.{nat_tests}
use Rattle.xcp_packet.specs.declared.Code.{Code}
use Rattle.xcp_packet.specs.declared.Code.TheVariants.{AccessDenied, WriteProtected}
use Rattle.xcp_memory.specs.Layout.{LayoutValue, IsLayout, signals_extent}
use Rattle.xcp_memory.specs.Memory.{LiesIn, LiesInside, IsProtected, LiesProtected}
use Rattle.xcp_memory.specs.Pages.{PagesValue, segment_at}
use Rattle.xcp_memory.specs.FirstRefusal.{Checks}
use Rattle.xcp_memory.specs.ComputedAccess.{is_inside, segment_of, lies_inside_by, lies_inside, write_refusal_by, write_refusal}
use Rattle.xcp_memory.proofs.AreaLaws.{located, segment_lies, signals_lie, one_area, inside_lies, inside_computes}

-- a check answers a refusal exactly where there is this one
told_by : (o : Option Code) (r : Result (Unit {0}) Code) (e : Code) → Checks o r → (r ≡ Err e) ↔ (o ≡ Some e)
told_by o (Ok d) e h = (λ k. cc, λ k. cc)
told_by o (Err c) e h = (λ k. cc, λ k. cc)

-- a refusal that is handed on is a check's
pub handed_on : (o : Option Code) (r : Result (Unit {0}) Code) (code y : Code) → o ≡ Some code → r ≡ Err y → y ≡ code → Checks o r
handed_on o r code y h e f = subst (λ s. Checks o s) (sym e) (h ∙ ap Some (sym f))

-- one equivalence behind another
through : {A B C : Type 0} → A ↔ B → B ↔ C → A ↔ C
through f g = (λ a. g.0 (f.0 a), λ c. f.1 (g.1 c))

not_true : (b : Bool) → (b ≡ true → ⊥) → b ≡ false
not_true true h = absurd (h refl)
not_true false h = refl

-- the refusals of a segment and of what is no segment
segment_denied : (b : Bool) → (if b then Some WriteProtected else None) ≡ Some AccessDenied → ⊥
segment_denied true h = cc
segment_denied false h = cc

segment_protected : (b : Bool) → (if b then Some WriteProtected else None) ≡ Some WriteProtected → b ≡ true
segment_protected true h = refl
segment_protected false h = cc

other_denied : (b : Bool) → (if b then Some WriteProtected else Some AccessDenied) ≡ Some AccessDenied → b ≡ false
other_denied true h = cc
other_denied false h = refl

other_protected : (b : Bool) → (if b then Some WriteProtected else Some AccessDenied) ≡ Some WriteProtected → b ≡ true
other_protected true h = refl
other_protected false h = cc

denied_outside : (o : Option ℕ) (v : PagesValue) (a n : ℕ) → write_refusal_by o v a n ≡ Some AccessDenied → lies_inside_by o v.layout a n ≡ false
denied_outside (Some i) v a n h = absurd (segment_denied ((segment_at v i).xcp == 0) h)
denied_outside None v a n h = other_denied (is_inside a n (signals_extent v.layout)) h

outside_denied : (o : Option ℕ) (v : PagesValue) (a n : ℕ) → lies_inside_by o v.layout a n ≡ false → write_refusal_by o v a n ≡ Some AccessDenied
outside_denied (Some i) v a n h = cc
outside_denied None v a n h = ap (λ b. if b then Some WriteProtected else Some AccessDenied) h

-- a write is denied exactly where its range lies in no one area
pub outside_is_denied : (v : PagesValue) (a n : ℕ) → (write_refusal v a n ≡ Some AccessDenied) ↔ (LiesInside v.layout a n → ⊥)
outside_is_denied v a n =
    let o = segment_of v.layout a n in (
      λ h k.
          (let out = denied_outside o v a n h in
          let within = inside_computes v.layout a n k in
          cc),
      λ h. outside_denied o v a n (not_true (lies_inside v.layout a n) (λ e. h (inside_lies v.layout a n e))),
    )

is_zero : (x : ℕ) → (x == 0) ≡ true → x ≡ 0
is_zero x h = grind (arith, nat_tests)

protected_lies : (o : Option ℕ) (v : PagesValue) (a n : ℕ) → segment_of v.layout a n ≡ o → write_refusal_by o v a n ≡ Some WriteProtected → LiesProtected v a n
protected_lies (Some i) v a n e h =
    (i, record { lies = segment_lies v.layout a n i e; kept = inr (is_zero (segment_at v i).xcp (segment_protected ((segment_at v i).xcp == 0) h)) })
protected_lies None v a n e h =
    (length v.layout.segments, record { lies = signals_lie v.layout a n (other_protected (is_inside a n (signals_extent v.layout)) h); kept = inl refl })

-- the first byte of a range lies where all of it does
first_byte : (l : LayoutValue) (a n i : ℕ) → 0 < n → LiesIn l a n i → LiesIn l a 1 i
first_byte l a n i h k =
    let to = k.to in
    record { there = k.there; from = k.from; to = omega arith }

lies_protected : (o : Option ℕ) (v : PagesValue) (a n i : ℕ) → IsLayout v.layout → 0 < n → segment_of v.layout a n ≡ o → IsProtected v a n i → write_refusal_by o v a n ≡ Some WriteProtected
lies_protected (Some j) v a n i l h e p =
    let here = segment_lies v.layout a n j e in
    let there = (located v.layout a n (Some j) (sym e)).there in
    let same = one_area v.layout a j i l (first_byte v.layout a n j h here) (first_byte v.layout a n i h p.lies) in
    elim p.kept [
      | inl k ↦ absurd (omega arith)
      | inr k ↦
          (let zero : (segment_at v j).xcp ≡ 0 = ap (λ m. (segment_at v m).xcp) same ∙ k in
          ap (λ x. if x == 0 then Some WriteProtected else None) zero)
    ]
lies_protected None v a n i l h e p =
    let within : lies_inside_by None v.layout a n ≡ true = ap (λ o. lies_inside_by o v.layout a n) (sym e) ∙ inside_computes v.layout a n (i, p.lies) in
    ap (λ b. if b then Some WriteProtected else Some AccessDenied) within

-- it is refused as protected exactly where its range lies in one area that may not be written
pub protected_is_refused : (v : PagesValue) (a n : ℕ) → IsLayout v.layout → 0 < n → (write_refusal v a n ≡ Some WriteProtected) ↔ LiesProtected v a n
protected_is_refused v a n l h =
    let o = segment_of v.layout a n in (
      λ k. protected_lies o v a n refl k,
      λ k. lies_protected o v a n k.0 l h refl k.1,
    )

-- what a call that answers the refusal of a write is denied by
pub answers_outside : (v : PagesValue) (a n : ℕ) (r : Result (Unit {0}) Code) → Checks (write_refusal v a n) r → (r ≡ Err AccessDenied) ↔ (LiesInside v.layout a n → ⊥)
answers_outside v a n r h = through (told_by (write_refusal v a n) r AccessDenied h) (outside_is_denied v a n)

-- such a call answers protected exactly where the range, not empty, lies in one area that may not be written
pub answers_protected : (v : PagesValue) (a n : ℕ) (r : Result (Unit {0}) Code) → IsLayout v.layout → 0 < n → Checks (write_refusal v a n) r → (r ≡ Err WriteProtected) ↔ LiesProtected v a n
answers_protected v a n r l some h = through (told_by (write_refusal v a n) r WriteProtected h) (protected_is_refused v a n l some)
