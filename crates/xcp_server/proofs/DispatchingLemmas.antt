-- Outlets and writers, by their places.
use Rattle.std.proofs.Common.{◌≡◌, ℕ, suc, ◌+◌, List, [], ◌∷◌, ◌++◌, length, map, refl, sym, ap, ◌∙◌, subst, append_assoc, arith}
use Rattle.std.specs.Prelude.{Option}
use Rattle.std.specs.List.{AllByRecursion, AllZip}
use Rattle.xcp_framing.specs.CountedCalls.{Watched}
use Rattle.xcp_outlet.specs.OutletEnds.{Outlet}
use Rattle.xcp_outlet.specs.Sending.{SendsMessages}
use Rattle.xcp_connection.specs.Parts.{Parted}
use Rattle.xcp_connection.specs.Sending.{WroteAs, WroteFor}
use Rattle.xcp_connection.specs.declared.hearing.Heard.{Heard}
use Rattle.xcp_connection.specs.declared.pumping.Pumped.{Pumped}
use Rattle.xcp_connection.specs.declared.sending.Wrote.{Wrote}
use Rattle.xcp_locked.specs.PairedLists.{EachFrom}
use Rattle.xcp_locked.proofs.PairedListLemmas.{each_more}
use Rattle.xcp_server.specs.private.Dispatching.{ThreeEnds, IsFreshDispatch, IsPartedAt, before_at, failures_at, outlet_at}

-- what holds of each holds of one more
each_and_one : {A : Type 0} (P : A → Type 0) (xs : List A) (x : A) → AllByRecursion P xs → P x → AllByRecursion P (xs ++ x ∷ [])
each_and_one P [] x h one = (one, tt)
each_and_one P (y ∷ xs) x h one = (h.0, each_and_one P xs x h.1 one)

-- one more outlet in which nothing was put
pub each_fresh_more : (es more : List ThreeEnds) (e : ThreeEnds) → AllByRecursion IsFreshDispatch es → IsFreshDispatch e → more ≡ es ++ e ∷ [] → AllByRecursion IsFreshDispatch more
each_fresh_more es more e h one is = subst (λ z. AllByRecursion IsFreshDispatch z) (sym is) (each_and_one IsFreshDispatch es e h one)

-- what is known by the places from one on: of this one, and of those from the next one on
pub this_place : {A : Type 0} (f g : ℕ → A) (n : ℕ) → ((i : ℕ) → f (n + i) ≡ g i) → g 0 ≡ f n
this_place f g n was = let e : n + 0 ≡ n = omega arith in sym (was 0) ∙ ap f e

next_place : {A : Type 0} (f g : ℕ → A) (n : ℕ) → ((i : ℕ) → f (n + i) ≡ g i) → (i : ℕ) → f ((n + 1) + i) ≡ g (suc i)
next_place f g n was i = let e : (n + 1) + i ≡ n + suc i = omega arith in ap f e ∙ was (suc i)

-- what is known by every place is known by the places from 0 on, of a list that is the same
pub from_start : {A X : Type 0} (f : ℕ → A) (g : X → ℕ → A) (was now : X) → ((i : ℕ) → f i ≡ g was i) → now ≡ was → (i : ℕ) → f (0 + i) ≡ g now i
from_start f g was now h same i = let e : 0 + i ≡ i = omega arith in ap f e ∙ (h i ∙ ap (λ z. g z i) (sym same))

-- the outlet at a place is the first of those from there on, and the others are those from the next place on
pub this_outlet : (outlet : ℕ → Outlet) (n : ℕ) (es more : List ThreeEnds) (e : ThreeEnds) → ((i : ℕ) → outlet (n + i) ≡ outlet_at es i) → es ≡ e ∷ more → e.2.outlet ≡ outlet n
this_outlet outlet n es more e was steps = sym (ap (λ z. outlet_at z 0) steps) ∙ this_place outlet (outlet_at es) n was

-- where the first is passed over, the others are the outlets from the next place on
pub next_outlets : (outlet : ℕ → Outlet) (n : ℕ) (es more : List ThreeEnds) (e : ThreeEnds) → ((i : ℕ) → outlet (n + i) ≡ outlet_at es i) → es ≡ e ∷ more → (i : ℕ) → outlet ((n + 1) + i) ≡ outlet_at more i
next_outlets outlet n es more e was steps i = next_place outlet (outlet_at es) n was i ∙ ap (λ z. outlet_at z (suc i)) steps

module _ {I O : Type 0} where
  -- the same of how the writers were when they began
  pub this_before : (contents : O → Option (List ℕ)) (before : ℕ → Option (List ℕ)) (n : ℕ) (ss more : List (Watched I × Watched O)) (s : Watched I × Watched O) → ((i : ℕ) → before (n + i) ≡ before_at contents ss i) → ss ≡ s ∷ more → contents s.1.inner ≡ before n
  this_before contents before n ss more s was steps = sym (ap (λ z. before_at contents z 0) steps) ∙ this_place before (before_at contents ss) n was

  pub next_befores : (contents : O → Option (List ℕ)) (before : ℕ → Option (List ℕ)) (n : ℕ) (ss more : List (Watched I × Watched O)) (s : Watched I × Watched O) → ((i : ℕ) → before (n + i) ≡ before_at contents ss i) → ss ≡ s ∷ more → (i : ℕ) → before ((n + 1) + i) ≡ before_at contents more i
  next_befores contents before n ss more s was steps i = next_place before (before_at contents ss) n was i ∙ ap (λ z. before_at contents z (suc i)) steps

  pub this_failures : (failures : ℕ → ℕ) (n : ℕ) (ss more : List (Watched I × Watched O)) (s : Watched I × Watched O) → ((i : ℕ) → failures (n + i) ≡ failures_at ss i) → ss ≡ s ∷ more → s.1.failures ≡ failures n
  this_failures failures n ss more s was steps = sym (ap (λ z. failures_at z 0) steps) ∙ this_place failures (failures_at ss) n was

  pub next_failures : (failures : ℕ → ℕ) (n : ℕ) (ss more : List (Watched I × Watched O)) (s : Watched I × Watched O) → ((i : ℕ) → failures (n + i) ≡ failures_at ss i) → ss ≡ s ∷ more → (i : ℕ) → failures ((n + 1) + i) ≡ failures_at more i
  next_failures failures n ss more s was steps i = next_place failures (failures_at ss) n was i ∙ ap (λ z. failures_at z (suc i)) steps

-- one more of a list that is mapped was taken
pub mapped_more : {A B : Type 0} (f : A → B) (given all : List B) (rest left : List A) (x : A) (more : List B) → given ++ map f rest ≡ all → rest ≡ x ∷ left → more ≡ given ++ f x ∷ [] → more ++ map f left ≡ all
mapped_more f given all rest left x more was steps grown =
    ap (λ z. z ++ map f left) grown ∙ (append_assoc given (f x ∷ []) (map f left) ∙ (ap (λ z. given ++ map f z) (sym steps) ∙ was))

-- as many places as elements, and one more of either
pub one_longer : {A : Type 0} (done : List A) (x : A) (n : ℕ) → n ≡ length done → n + 1 ≡ length (done ++ x ∷ [])
one_longer [] x n is = ap (λ k. k + 1) is
one_longer (y ∷ done) x n is = let e = one_longer done x (length done) refl in omega (arith, e, is)

-- one more connection of which is known what came of its parts and what was written for it
pub parted_more : {S I O : Type 0} (contents : O → Option (List ℕ)) (outlet : ℕ → Outlet) (before : ℕ → Option (List ℕ)) (failures : ℕ → ℕ) (place : ℕ) (done : List (Heard S I × Pumped S)) (finished more : List (Parted S I O)) (heard : Heard S I) (pumped : Pumped S) (wrote : Wrote O)
    → EachFrom (IsPartedAt contents outlet before failures) 0 done finished → place ≡ length done → WroteAs contents (outlet place) (before place) (failures place) wrote → more ≡ finished ++ (heard, pumped, wrote) ∷ [] → EachFrom (IsPartedAt contents outlet before failures) 0 (done ++ (heard, pumped) ∷ []) more
parted_more contents outlet before failures place done finished more heard pumped wrote was here is grown =
    let at : place ≡ 0 + length done = omega (arith, here) in
    subst (λ z. EachFrom (IsPartedAt contents outlet before failures) 0 (done ++ (heard, pumped) ∷ []) z) (sym grown)
    (each_more (IsPartedAt contents outlet before failures) 0 done finished (heard, pumped) (heard, pumped, wrote) was
    (subst (λ n. IsPartedAt contents outlet before failures n (heard, pumped) (heard, pumped, wrote)) at (record { heard = refl; pumped = refl; wrote = is })))

-- of what came of each connection, where the places are those of these outlets and of these readers and writers
module _ {S I O : Type 0} (contents : O → Option (List ℕ)) (outlet : ℕ → Outlet) (before : ℕ → Option (List ℕ)) (failures : ℕ → ℕ) where
  -- the parts are those that were given
  pub parts_each : (k : ℕ) (ps : List (Heard S I × Pumped S)) (ds : List (Parted S I O)) → EachFrom (IsPartedAt contents outlet before failures) k ps ds → AllZip (λ p d. (d.0 ≡ p.0) × (d.1 ≡ p.1)) ps ds
  parts_each k [] [] h = tt
  parts_each k (p ∷ ps) (d ∷ ds) h = ((h.0.heard, h.0.pumped), parts_each (k + 1) ps ds h.1)
  parts_each k [] (d ∷ ds) h = absurd h
  parts_each k (p ∷ ps) [] h = absurd h

  outlets_from : (k : ℕ) (es : List ThreeEnds) (ps : List (Heard S I × Pumped S)) (ds : List (Parted S I O)) → length es ≡ length ps → ((i : ℕ) → outlet (k + i) ≡ outlet_at es i) → EachFrom (IsPartedAt contents outlet before failures) k ps ds → AllZip (λ (e : ThreeEnds) (d : Parted S I O). d.2.sent.took.outlet ≡ e.2.outlet) es ds
  outlets_from k [] [] [] l o h = tt
  outlets_from k [] [] (d ∷ ds) l o h = absurd h
  outlets_from k [] (p ∷ ps) ds l o h = absurd (omega (arith, l))
  outlets_from k (e ∷ es) [] ds l o h = absurd (omega (arith, l))
  outlets_from k (e ∷ es) (p ∷ ps) [] l o h = absurd h
  outlets_from k (e ∷ es) (p ∷ ps) (d ∷ ds) l o h = (h.0.wrote.same ∙ sym (this_outlet outlet k (e ∷ es) es e o refl), outlets_from (k + 1) es ps ds (omega (arith, l)) (next_outlets outlet k (e ∷ es) es e o refl) h.1)

  -- what was taken is of the connection's own outlet
  pub outlets_each : (es : List ThreeEnds) (ps : List (Heard S I × Pumped S)) (ds : List (Parted S I O)) → length es ≡ length ps → ((i : ℕ) → outlet i ≡ outlet_at es i) → EachFrom (IsPartedAt contents outlet before failures) 0 ps ds → AllZip (λ (e : ThreeEnds) (d : Parted S I O). d.2.sent.took.outlet ≡ e.2.outlet) es ds
  outlets_each es ps ds l o h = outlets_from 0 es ps ds l (from_start outlet outlet_at es es o refl) h

  sends_from : (k : ℕ) (ss : List (Watched I × Watched O)) (ps : List (Heard S I × Pumped S)) (ds : List (Parted S I O)) → length ss ≡ length ps → ((i : ℕ) → before (k + i) ≡ before_at contents ss i) → ((i : ℕ) → failures (k + i) ≡ failures_at ss i) → EachFrom (IsPartedAt contents outlet before failures) k ps ds → AllZip (λ s d. WroteFor contents d.2.sent.took.outlet s.1 d.2) ss ds
  sends_from k [] [] [] l b f h = tt
  sends_from k [] [] (d ∷ ds) l b f h = absurd h
  sends_from k [] (p ∷ ps) ds l b f h = absurd (omega (arith, l))
  sends_from k (s ∷ ss) [] ds l b f h = absurd (omega (arith, l))
  sends_from k (s ∷ ss) (p ∷ ps) [] l b f h = absurd h
  sends_from k (s ∷ ss) (p ∷ ps) (d ∷ ds) l b f h =
      let had : before k ≡ contents s.1.inner = sym (this_before contents before k (s ∷ ss) ss s b refl) in
      let failed : failures k ≡ s.1.failures = sym (this_failures failures k (s ∷ ss) ss s f refl) in (
        record {
          same = refl;
          sends = subst (λ n. SendsMessages d.2.sent.count d.2.sent.took.taken (contents s.1.inner) (contents d.2.writer.value.inner) n d.2.writer.value.failures) failed
              (subst (λ z. SendsMessages d.2.sent.count d.2.sent.took.taken z (contents d.2.writer.value.inner) (failures k) d.2.writer.value.failures) had h.0.wrote.sends);
        },
        sends_from (k + 1) ss ps ds (omega (arith, l)) (next_befores contents before k (s ∷ ss) ss s b refl) (next_failures failures k (s ∷ ss) ss s f refl) h.1,
      )

  -- it was written by the connection's own writer
  pub sends_each : (ss : List (Watched I × Watched O)) (ps : List (Heard S I × Pumped S)) (ds : List (Parted S I O)) → length ss ≡ length ps → ((i : ℕ) → before i ≡ before_at contents ss i) → ((i : ℕ) → failures i ≡ failures_at ss i) → EachFrom (IsPartedAt contents outlet before failures) 0 ps ds → AllZip (λ s d. WroteFor contents d.2.sent.took.outlet s.1 d.2) ss ds
  sends_each ss ps ds l b f h = sends_from 0 ss ps ds l (from_start before (before_at contents) ss ss b refl) (from_start failures failures_at ss ss f refl) h
