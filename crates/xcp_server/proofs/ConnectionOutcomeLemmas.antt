-- What came of connections, by what came of their parts.
use Rattle.std.proofs.Common.{◌≡◌, ℕ, suc, ◌+◌, List, [], ◌∷◌, ◌++◌, Option, append-nil, length, map, drop, refl, sym, ap, ◌∙◌, subst, ⊎_elim, true≢false, arith}
use Rattle.std.specs.Prelude.{◌⊎◌, Some, false}
use Rattle.std.specs.List.{AllByRecursion, AllZip, slice_get}
use Rattle.xcp_framing.specs.CountedCalls.{Watched}
use Rattle.xcp_outlet.specs.OutletEnds.{EndSeen, Outlet}
use Rattle.xcp_connection.specs.Closing.{AreOfOneOutlet}
use Rattle.xcp_connection.specs.Parts.{Connection, Parted}
use Rattle.xcp_connection.specs.Sending.{WroteFor}
use Rattle.xcp_connection.specs.declared.closing.Closed.{Closed}
use Rattle.xcp_connection.specs.declared.connection.Limits.{Limits}
use Rattle.xcp_connection.specs.declared.hearing.Heard.{Heard}
use Rattle.xcp_connection.specs.declared.pumping.Pumped.{Pumped}
use Rattle.xcp_locked.specs.PairedLists.{EachFrom}
use Rattle.xcp_locked.proofs.PairedListLemmas.{dealt_more, each_length, each_through}
use Rattle.xcp_locked.proofs.TallyLemmas.{some_same}
use Rattle.xcp_locked.specs.Caller.{CallerValue}
use Rattle.xcp_locked.specs.declared.tool.Tool.{Tool}
use Rattle.xcp_server.specs.ServerOutcome.{ServedAt}
use Rattle.xcp_server.specs.private.ConnectionParts.{CameOfTools, IsConnectionWithin, IsEndOf}
use Rattle.xcp_server.specs.private.Dispatching.{ThreeEnds, IsFreshDispatch, IsPartedAt, IsUnput, before_at, failures_at, outlet_at}

-- the first of some, and the others
pub each_of_one : {A : Type 0} (P : A → Type 0) (xs more : List A) (x : A) → AllByRecursion P xs → xs ≡ x ∷ more → P x
each_of_one P xs more x h is = (rw is at h).0

-- what holds of each element of a list holds of each one behind the first
pub each_of_others : {A : Type 0} (P : A → Type 0) (xs more : List A) (x : A) → AllByRecursion P xs → xs ≡ x ∷ more → AllByRecursion P more
each_of_others P xs more x h is = (rw is at h).1

-- connections with the outlets of the first of these ends, and one more
pub outlets_more : {N T S I P F : Type 0} (cs more : List (Connection N T S I P F)) (c : Connection N T S I P F) (e : EndSeen × EndSeen) (rest left : List (EndSeen × EndSeen)) (all : List Outlet) → map (λ x. x.0.replies.outlet) cs ++ map (λ x. x.0.outlet) rest ≡ all → rest ≡ e ∷ left → c.0.replies.outlet ≡ e.0.outlet → more ≡ cs ++ c ∷ []
    → map (λ x. x.0.replies.outlet) more ++ map (λ x. x.0.outlet) left ≡ all
outlets_more cs more c e rest left all was is same pushed =
    let next : map (λ (x : EndSeen × EndSeen). x.0.outlet) rest ≡ e.0.outlet ∷ map (λ (x : EndSeen × EndSeen). x.0.outlet) left = ap (λ xs. map (λ (x : EndSeen × EndSeen). x.0.outlet) xs) is in
    dealt_more (λ x. x.0.replies.outlet) cs more c e.0.outlet (map (λ x. x.0.outlet) rest) (map (λ x. x.0.outlet) left) all was next same pushed

-- and all of them, where no ends are left
pub outlets_all : {N T S I P F : Type 0} (cs : List (Connection N T S I P F)) (rest : List (EndSeen × EndSeen)) (n : ℕ) {all given : List Outlet} → map (λ x. x.0.replies.outlet) cs ++ map (λ x. x.0.outlet) rest ≡ all → n ≡ length rest → n ≡ 0 → all ≡ given → map (λ x. x.0.replies.outlet) cs ≡ given
outlets_all cs [] n was long none is = sym (append-nil (map (λ x. x.0.replies.outlet) cs)) ∙ (was ∙ is)
outlets_all cs (e ∷ es) n was long none is = absurd (omega (arith, long, none))

-- the two ends of each outlet have put nothing
pub unput_ends : (os : List ThreeEnds) (es : List (EndSeen × EndSeen)) → AllByRecursion IsFreshDispatch os → es ≡ map (λ o. (o.0, o.1)) os → AllByRecursion IsUnput es
unput_ends os es fresh is = subst (AllByRecursion IsUnput) (sym is) (each os fresh)
  where
    each : (os : List ThreeEnds) → AllByRecursion IsFreshDispatch os → AllByRecursion IsUnput (map (λ o. (o.0, o.1)) os)
    each [] fresh = tt
    each (o ∷ os) fresh =
        let same : o.2.outlet ≡ o.0.outlet = sym (ap (λ (e : EndSeen). e.outlet) fresh.0.replies) in
        (record { replies = rw same at fresh.0.replies; samples = rw same at fresh.0.samples }, each os fresh.1)

-- and are of it
pub ends_outlets : (os : List ThreeEnds) (es : List (EndSeen × EndSeen)) → AllByRecursion IsFreshDispatch os → es ≡ map (λ o. (o.0, o.1)) os → map (λ (e : EndSeen × EndSeen). e.0.outlet) es ≡ map (λ (o : ThreeEnds). o.2.outlet) os
ends_outlets os es fresh is = ap (λ xs. map (λ (e : EndSeen × EndSeen). e.0.outlet) xs) is ∙ each os fresh
  where
    each : (os : List ThreeEnds) → AllByRecursion IsFreshDispatch os → map (λ (e : EndSeen × EndSeen). e.0.outlet) (map (λ o. (o.0, o.1)) os) ≡ map (λ (o : ThreeEnds). o.2.outlet) os
    each [] fresh = refl
    each (o ∷ os) fresh =
        let same : o.0.outlet ≡ o.2.outlet = ap (λ (e : EndSeen). e.outlet) fresh.0.replies in
        rw same (ap (λ xs. o.2.outlet ∷ xs) (each os fresh.1))

-- the other one, where it isn't the first
other : {A B : Type 0} → (A → ⊥) → A ⊎ B → B
other never h = ⊎_elim (λ a. absurd (never a)) (λ b. b) h

-- lists that belong together, and the second one with a third, at the same places
pub each_on : {A B C : Type 0} (R : ℕ → A → B → Type 0) (S : ℕ → B → C → Type 0) (T : ℕ → A → C → Type 0) → ((n : ℕ) (a : A) (b : B) (c : C) → R n a b → S n b c → T n a c) → (k : ℕ) (xs : List A) (ys : List B) (zs : List C) → EachFrom R k xs ys → EachFrom S k ys zs → EachFrom T k xs zs
each_on R S T f k [] [] [] h i = tt
each_on R S T f k [] [] (z ∷ zs) h i = absurd i
each_on R S T f k [] (y ∷ ys) zs h i = absurd h
each_on R S T f k (x ∷ xs) [] zs h i = absurd h
each_on R S T f k (x ∷ xs) (y ∷ ys) [] h i = absurd i
each_on R S T f k (x ∷ xs) (y ∷ ys) (z ∷ zs) h i = (f k x y z h.0 i.0, each_on R S T f (k + 1) xs ys zs h.1 i.1)

-- both of two relations
pub each_both : {A B : Type 0} (R S : ℕ → A → B → Type 0) (k : ℕ) (xs : List A) (ys : List B) → EachFrom R k xs ys → EachFrom S k xs ys → EachFrom (λ n x y. R n x y × S n x y) k xs ys
each_both R S k [] [] h i = tt
each_both R S k [] (y ∷ ys) h i = absurd h
each_both R S k (x ∷ xs) [] h i = absurd h
each_both R S k (x ∷ xs) (y ∷ ys) h i = ((h.0, i.0), each_both R S (k + 1) xs ys h.1 i.1)

-- what follows of each second element
pub each_second : {A B : Type 0} (R : ℕ → A → B → Type 0) (P : B → Type 0) → ((n : ℕ) (x : A) (y : B) → R n x y → P y) → (k : ℕ) (xs : List A) (ys : List B) → EachFrom R k xs ys → AllByRecursion P ys
each_second R P f k [] [] h = tt
each_second R P f k [] (y ∷ ys) h = absurd h
each_second R P f k (x ∷ xs) [] h = absurd h
each_second R P f k (x ∷ xs) (y ∷ ys) h = (f k x y h.0, each_second R P f (k + 1) xs ys h.1)

-- what is said of a list that was mapped is said of what it was mapped from
pub zip_mapped : {A B C : Type 0} (f : A → B) (R : B → C → Type 0) (xs : List A) (ys : List C) → AllZip R (map f xs) ys → AllZip (λ x y. R (f x) y) xs ys
zip_mapped f R [] [] h = tt
zip_mapped f R [] (y ∷ ys) h = absurd h
zip_mapped f R (x ∷ xs) [] h = absurd h
zip_mapped f R (x ∷ xs) (y ∷ ys) h = (h.0, zip_mapped f R xs ys h.1)

head_same : {A : Type 0} (x y : A) (xs ys : List A) → ◌≡◌ {A = List A} (x ∷ xs) (y ∷ ys) → x ≡ y
head_same x y xs ys h = some_same x y (ap (λ zs. slice_get zs 0) h)

tail_same : {A : Type 0} (x y : A) (xs ys : List A) → ◌≡◌ {A = List A} (x ∷ xs) (y ∷ ys) → xs ≡ ys
tail_same x y xs ys h = ap (λ zs. drop 1 zs) h

module _ {N T R I P F O : Type 0} (contents : O → Option (List ℕ)) (outlet : ℕ → Outlet) (before : ℕ → Option (List ℕ)) (failures : ℕ → ℕ) where
  -- the name tells the connection's outlet at this place, and how its writer was
  pub record IsNamedAt (place : ℕ) (e : Watched I × Watched O) (c : Connection N T (Tool N R) I P F) : Type 0 where
    pub outlet_is : outlet place ≡ c.0.replies.outlet
    pub before_is : before place ≡ contents e.1.inner
    pub failures_is : failures place ≡ e.1.failures

  -- each connection, where the name tells all outlets and all writers
  pub named_each : (k : ℕ) (es : List (Watched I × Watched O)) (os : List ThreeEnds) (cs : List (Connection N T (Tool N R) I P F)) → length cs ≡ length es → map (λ c. c.0.replies.outlet) cs ≡ map (λ o. o.2.outlet) os
      → ((i : ℕ) → outlet (k + i) ≡ outlet_at os i) → ((i : ℕ) → before (k + i) ≡ before_at contents es i) → ((i : ℕ) → failures (k + i) ≡ failures_at es i) → EachFrom IsNamedAt k es cs
  named_each k [] os [] long same a b d = tt
  named_each k [] os (c ∷ cs) long same a b d = absurd (omega (arith, long))
  named_each k (e ∷ es) os [] long same a b d = absurd (omega (arith, long))
  named_each k (e ∷ es) [] (c ∷ cs) long same a b d = absurd (let n = ap length same in omega (arith, n))
  named_each k (e ∷ es) (o ∷ os) (c ∷ cs) long same a b d =
      let here : k + 0 ≡ k = omega arith in
      let next : (i : ℕ) → k + suc i ≡ (k + 1) + i = λ i. omega arith in (
        record {
          outlet_is = ap outlet (sym here) ∙ (a 0 ∙ sym (head_same c.0.replies.outlet o.2.outlet (map (λ x. x.0.replies.outlet) cs) (map (λ x. x.2.outlet) os) same));
          before_is = ap before (sym here) ∙ b 0;
          failures_is = ap failures (sym here) ∙ d 0;
        },
        named_each (k + 1) es os cs (omega (arith, long)) (tail_same c.0.replies.outlet o.2.outlet (map (λ x. x.0.replies.outlet) cs) (map (λ x. x.2.outlet) os) same)
            (λ i. ap outlet (sym (next i)) ∙ a (suc i)) (λ i. ap before (sym (next i)) ∙ b (suc i)) (λ i. ap failures (sym (next i)) ∙ d (suc i)),
      )

-- What came of the connection at a place: of its parts, and of what was written for it, by its reader and its writer.
pub record CameAt {N T R I P F O : Type 0} (remaining : I → Option (List ℕ)) (contents : O → Option (List ℕ)) (limits : Limits) (tools drains : List CallerValue) (place : ℕ) (e : Watched I × Watched O) (c : Connection N T (Tool N R) I P F) (d : Parted (Tool N R) I O) : Type 0 where
  pub is : IsConnectionWithin limits e.0 c
  pub at_tool : slice_get tools place ≡ Some c.0.station.caller
  pub at_pump : slice_get drains place ≡ Some c.1.station.caller
  pub came : CameOfTools remaining c (d.0, d.1)
  pub wrote : WroteFor contents c.0.replies.outlet e.1 d.2

-- the same of some connection
abbrev pub CameSomehowAt : {N R I O : Type 0} → (T P F : Type 0) → (I → Option (List ℕ)) → (O → Option (List ℕ)) → Limits → List CallerValue → List CallerValue → ℕ → Watched I × Watched O → Parted (Tool N R) I O → Type 0
CameSomehowAt {N} {R} {I} T P F remaining contents limits tools drains place e d = (c : Connection N T (Tool N R) I P F) × CameAt remaining contents limits tools drains place e c d

module _ {N T R I P F O : Type 0} (remaining : I → Option (List ℕ)) (contents : O → Option (List ℕ)) (limits : Limits) where
  -- a connection has one outlet
  pub one_outlet : (tools drains : List CallerValue) (i : ℕ) (e : Watched I × Watched O) (d : Parted (Tool N R) I O) → CameSomehowAt T P F remaining contents limits tools drains i e d → AreOfOneOutlet d
  one_outlet tools drains i e d (c, h) = record {
    replies = h.wrote.same ∙ sym h.came.heard.outlet;
    samples = h.wrote.same ∙ sym (h.came.pumped.outlet ∙ ap (λ (x : EndSeen). x.outlet) h.is.samples);
    reply_side = h.came.heard.side ∙ ap (λ (x : EndSeen). x.side) h.is.replies;
    sample_side = h.came.pumped.side ∙ ap (λ (x : EndSeen). x.side) h.is.samples;
  }

  -- what came of a connection, of one passage and one call of its pump, said of its reader and writer
  pub served_at : limits.goes_on ≡ false → (tools drains : List CallerValue) (i : ℕ) (e : Watched I × Watched O) (d : Parted (Tool N R) I O) (k : Closed CallerValue I O)
      → CameSomehowAt T P F remaining contents limits tools drains i e d → IsEndOf d k → ServedAt remaining contents limits.max_cto limits.turns tools drains i e k
  served_at once tools drains i e d k (c, h) k_is =
      let is = h.is in
      let passage = other (λ goes_on. goes_on) h.came.heard.single in
      let pumps = other (λ more. true≢false (sym more ∙ (is.goes_on ∙ once))) h.came.pumped.single in
      record {
        tool = c.0.station.caller;
        tool_at = h.at_tool;
        pump = c.1.station.caller;
        pump_at = h.at_pump;
        attended = record {
          serves = rw (sym is.max_cto, sym is.reader_is, k_is.heard, k_is.reader, k_is.tool, k_is.replies_are) (rw (ap (λ (x : EndSeen). x.put) is.replies) at passage.serves);
          pumps = rw (k_is.pumped, k_is.pump, k_is.samples_are) (rw (ap (λ (x : EndSeen). x.put) is.samples) at pumps);
          stops = rw (k_is.pumped) h.came.pumped.stops;
          sends = rw (k_is.sent, k_is.taken_is, k_is.writer) h.wrote.sends;
          replies = k_is.replies;
          samples = k_is.samples;
          outcome = k_is.outcome;
          ends = rw (k_is.heard, k_is.reader) h.came.heard.ends;
          read = rw (k_is.heard, sym is.reader_is, k_is.reader) h.came.heard.failed;
          unfailed = rw (k_is.heard, sym is.reader_is, k_is.reader) h.came.heard.fine;
          reads = rw (sym is.reader_is, sym is.reads, k_is.reader) passage.reads.most;
          spent = rw (k_is.heard, sym is.reader_is, sym is.reads, k_is.reader) passage.reads.spent;
          refused = rw (sym is.max_cto, sym is.reader_is, k_is.heard, k_is.reader, k_is.tool, k_is.replies_are) (rw (ap (λ (x : EndSeen). x.put) is.replies) at passage.refused);
          same_tool = rw (k_is.tool) h.came.heard.stays;
          same_pump = rw (k_is.pump) h.came.pumped.stays;
        };
      }

  -- all of them
  pub all_came : (tools drains : List CallerValue) (outlet : ℕ → Outlet) (before : ℕ → Option (List ℕ)) (failures : ℕ → ℕ) (es : List (Watched I × Watched O)) (os : List ThreeEnds) (cs : List (Connection N T (Tool N R) I P F)) (ps : List (Heard (Tool N R) I × Pumped (Tool N R))) (ds : List (Parted (Tool N R) I O))
      → EachFrom (λ i e c. (IsConnectionWithin limits e.0 c × (slice_get tools i ≡ Some c.0.station.caller)) × (slice_get drains i ≡ Some c.1.station.caller)) 0 es cs
      → map (λ c. c.0.replies.outlet) cs ≡ map (λ o. o.2.outlet) os → ((i : ℕ) → outlet i ≡ outlet_at os i) → ((i : ℕ) → before i ≡ before_at contents es i) → ((i : ℕ) → failures i ≡ failures_at es i)
      → AllZip (CameOfTools remaining) cs ps → EachFrom (IsPartedAt contents outlet before failures) 0 ps ds → EachFrom (CameSomehowAt T P F remaining contents limits tools drains) 0 es ds
  all_came tools drains outlet before failures es os cs ps ds dealt same a b f came parted =
      let Dealt : ℕ → Watched I × Watched O → Connection N T (Tool N R) I P F → Type 0 = λ i e c. (IsConnectionWithin limits e.0 c × (slice_get tools i ≡ Some c.0.station.caller)) × (slice_get drains i ≡ Some c.1.station.caller) in
      let Named = IsNamedAt {N = N} {T = T} {R = R} {I = I} {P = P} {F = F} contents outlet before failures in
      let long = each_length Dealt 0 es cs dealt in
      let zero_is : (i : ℕ) → 0 + i ≡ i = λ i. omega arith in
      let named = named_each contents outlet before failures 0 es os cs long same (λ i. ap outlet (zero_is i) ∙ a i) (λ i. ap before (zero_is i) ∙ b i) (λ i. ap failures (zero_is i) ∙ f i) in
      each_on (λ i e p. (c : Connection N T (Tool N R) I P F) × (Dealt i e c × Named i e c) × CameOfTools remaining c p) (IsPartedAt contents outlet before failures) (CameSomehowAt T P F remaining contents limits tools drains)
      (λ i e p d h x. (
        h.0,
        record {
          is = h.1.0.0.0;
          at_tool = h.1.0.0.1;
          at_pump = h.1.0.1;
          came = subst (λ (q : Heard (Tool N R) I × Pumped (Tool N R)). CameOfTools remaining h.0 q) (same_pair p d x.heard x.pumped) h.2;
          wrote = rw (← h.1.1.outlet_is, ← h.1.1.before_is, ← h.1.1.failures_is) x.wrote;
        },
      )) 0 es ps ds
      (each_through (λ i e c. Dealt i e c × Named i e c) (CameOfTools remaining) (λ i e p. (c : Connection N T (Tool N R) I P F) × (Dealt i e c × Named i e c) × CameOfTools remaining c p) (λ i e c p h x. (c, h, x)) 0 es cs ps (each_both Dealt Named 0 es cs dealt named) came)
      parted
    where
      same_pair : (p : Heard (Tool N R) I × Pumped (Tool N R)) (d : Parted (Tool N R) I O) → d.0 ≡ p.0 → d.1 ≡ p.1 → p ≡ (d.0, d.1)
      same_pair p d h k = rw (h, k) refl
