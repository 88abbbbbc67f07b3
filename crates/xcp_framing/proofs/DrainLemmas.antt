-- Drains, and then more.
use Rattle.std.proofs.Common.{◌≡◌, ◌≢◌, ◌+◌, ℕ, List, [], ◌∷◌, ◌++◌, length, ◌≤◌, Result, Ok, Err, IfErr, ⊎_elim, refl, sym, ap, ◌∙◌, subst, arith, append_assoc, length-append}
use Rattle.std.proofs.lemmas.List.{append-nil}
use Rattle.xcp_slave.specs.declared.Exchange.{Exchange}
use Rattle.xcp_slave.specs.declared.Request.{Request}
use Rattle.xcp_slave.specs.declared.Request.TheVariants as requests
use Rattle.xcp_framing.specs.declared.station.StationError.{StationError}
use Rattle.xcp_framing.specs.declared.station.StationError.TheVariants as refusals
use Rattle.xcp_framing.specs.declared.serving.ServeError.{ServeError}
use Rattle.xcp_framing.specs.declared.serving.ServeError.TheVariants as errors
use Rattle.xcp_framing.specs.Serve.{packets_in_answer, packets_in_answers, refused_with}
use Rattle.xcp_framing.specs.ServeBy.{IsHandedBack}
use Rattle.xcp_framing.specs.ServeRefusal.{StationRefused}
use Rattle.xcp_framing.specs.ServeParts.{IsInterruption}
use Rattle.xcp_framing.specs.Pump.{AllDrains, DrainAgain, DrainsInto, DrainsUpTo, Gathered, Pumped, Pumps}
use Rattle.xcp_framing.specs.private.PutOutput.{IsLeftUnput, Moves, MovesSoFar}
use Rattle.xcp_framing.specs.private.HeldPump.{PumpsHeld}
use Rattle.xcp_framing.proofs.PutOutputLemmas.{all_put, back_on, behind≢nil, both_move, lost_in, moves_as, moves_back, moves_in, moves_lost, moves_more, moves_none, moves_put, put_on, unput_is}
use Rattle.xcp_framing.proofs.ExchangeLemmas.{packets_of-append}

ok_is : {x y : ℕ} → ◌≡◌ {A = Result ℕ ServeError} (Ok x) (Ok y) → x ≡ y
ok_is {x} {y} e = ap (λ (r : Result ℕ ServeError). get x r) e
  where
    get : ℕ → Result ℕ ServeError → ℕ
    get d (Ok v) = v
    get d (Err f) = d

no_ok : {x : ServeError} {y : ℕ} → ◌≡◌ {A = Result ℕ ServeError} (Err x) (Ok y) → ⊥
no_ok h = cc

drains_append : (xs ys : List Exchange) → AllDrains xs → AllDrains ys → AllDrains (xs ++ ys)
drains_append [] ys h k = k
drains_append (x ∷ xs) ys h k = (h.0, drains_append xs ys h.1 k)

-- nothing yet
pub pumps_none : (n : ℕ) (old : List Exchange) (a h : List (List ℕ)) → n ≡ 0 → PumpsHeld (Ok n) old old a h a h
pumps_none n old a h z = record {
  exchanges = [];
  grown = sym (append-nil old);
  drains = tt;
  moves = moves_none a h;
  counts = λ m is. sym (ok_is is) ∙ z;
}

-- a look that changed no exchange
pub pumps_kept : (n : ℕ) (old mid new : List Exchange) {a h b k : List (List ℕ)} → new ≡ mid → PumpsHeld (Ok n) old mid a h b k → PumpsHeld (Ok n) old new a h b k
pumps_kept n old mid new {a = a} {h = h} {b = b} {k = k} e x = subst (λ (z : List Exchange). PumpsHeld (Ok n) old z a h b k) (sym e) x

-- the batch was put
pub pumps_put : (n : ℕ) (old new : List Exchange) {a h b k c l : List (List ℕ)} → c ≡ b ++ k → l ≡ [] → PumpsHeld (Ok n) old new a h b k → PumpsHeld (Ok n) old new a h c l
pumps_put n old new e f x = record { exchanges = x.exchanges; grown = x.grown; drains = x.drains; moves = put_on (packets_in_answers x.exchanges) x.moves e f; counts = x.counts }

-- the batch was handed back, or had no memory
pub pumps_back : (n : ℕ) (e : ServeError) (old new : List Exchange) {a h b k c l : List (List ℕ)} → IsLeftUnput e → c ≡ b → k ≢ [] → l ≡ [] → PumpsHeld (Ok n) old new a h b k → PumpsHeld (Err e) old new a h c l
pumps_back n e old new unput same some none x = record { exchanges = x.exchanges; grown = x.grown; drains = x.drains; moves = moves_lost ℕ e _ _ _ _ _ unput (back_on (packets_in_answers x.exchanges) x.moves same some) none; counts = λ m is. absurd (no_ok is) }

-- Drains behind Drains
pub pumps_more : (n j : ℕ) {old mid new : List Exchange} {a h b k c l : List (List ℕ)} → PumpsHeld (Ok n) old mid a h b k → PumpsHeld (Ok j) mid new b k c l → PumpsHeld (Ok (n + j)) old new a h c l
pumps_more n j {old = old} x y = record {
  exchanges = x.exchanges ++ y.exchanges;
  grown = y.grown ∙ (ap (λ (z : List Exchange). z ++ y.exchanges) x.grown ∙ append_assoc old x.exchanges y.exchanges);
  drains = drains_append x.exchanges y.exchanges x.drains y.drains;
  moves = rw (packets_of-append x.exchanges y.exchanges) (both_move (packets_in_answers x.exchanges) (packets_in_answers y.exchanges) x.moves y.moves);
  counts = λ m is. omega (arith, ok_is is, x.counts n refl, y.counts j refl, ap (λ (z : List (List ℕ)). length z) (packets_of-append x.exchanges y.exchanges), length-append (packets_in_answers x.exchanges) (packets_in_answers y.exchanges));
}

-- Drains, and then one that ended the call
pub pumps_err : (n : ℕ) (e : ServeError) {old mid new : List Exchange} {a h b k c l : List (List ℕ)} → PumpsHeld (Ok n) old mid a h b k → PumpsHeld (Err e) mid new b k c l → PumpsHeld (Err e) old new a h c l
pumps_err n e {old = old} {a = a} {h = h} {b = b} {k = k} {c = c} {l = l} x y = record {
  exchanges = x.exchanges ++ y.exchanges;
  grown = y.grown ∙ (ap (λ (z : List Exchange). z ++ y.exchanges) x.grown ∙ append_assoc old x.exchanges y.exchanges);
  drains = drains_append x.exchanges y.exchanges x.drains y.drains;
  moves = rw (packets_of-append x.exchanges y.exchanges) (moves_more {A = ℕ} (Err e) a b c h k l (packets_in_answers x.exchanges) (packets_in_answers y.exchanges) x.moves y.moves);
  counts = λ m is. absurd (no_ok is);
}

-- there was no room for one more Drain
pub no_room : (e : ServeError) {old new : List Exchange} {a h b k : List (List ℕ)} → IsLeftUnput e → new ≡ old → MovesSoFar {A = Unit {0}} (Err e) a h b k [] → PumpsHeld (Err e) old new a h b k
no_room e {old = old} unput same x = record {
  exchanges = [];
  grown = same ∙ sym (append-nil old);
  drains = tt;
  moves = moves_as (Unit {0}) ℕ e _ _ _ _ _ unput x;
  counts = λ m is. absurd (no_ok is);
}

-- no Drain yet
pub drains_none : (n : ℕ) (old : List Exchange) (h : List (List ℕ)) → n ≡ 0 → DrainsInto 0 (Ok n) old old h h
drains_none n old h z = record {
  exchanges = [];
  grown = sym (append-nil old);
  drains = tt;
  few = omega arith;
  gathers = sym (append-nil h);
  counts = λ m is. sym (ok_is is) ∙ z;
}

-- a look at what waits
pub drains_kept : (i n : ℕ) {old mid new : List Exchange} {h k : List (List ℕ)} → new ≡ mid → DrainsInto i (Ok n) old mid h k → DrainsInto i (Ok n) old new h k
drains_kept i n {old = old} {h = h} {k = k} e x = subst (λ (z : List Exchange). DrainsInto i (Ok n) old z h k) (sym e) x

-- more of them were allowed
pub drains_within : (i most : ℕ) (r : Result ℕ ServeError) {old new : List Exchange} {h k : List (List ℕ)} → i ≤ most → DrainsInto i r old new h k → DrainsInto most r old new h k
drains_within i most r e x = record { exchanges = x.exchanges; grown = x.grown; drains = x.drains; few = omega (arith, e, x.few); gathers = x.gathers; counts = x.counts }

grown_more : (old : List Exchange) {mid new : List Exchange} (xs ys : List Exchange) → mid ≡ old ++ xs → new ≡ mid ++ ys → new ≡ old ++ (xs ++ ys)
grown_more old xs ys e f = f ∙ (ap (λ (z : List Exchange). z ++ ys) e ∙ append_assoc old xs ys)

behind_one : (xs : List Exchange) (x : Exchange) → packets_in_answers (xs ++ x ∷ []) ≡ packets_in_answers xs ++ packets_in_answer x.answer
behind_one xs x = packets_of-append xs (x ∷ []) ∙ ap (λ (z : List (List ℕ)). packets_in_answers xs ++ z) (append-nil (packets_in_answer x.answer))

-- one more Drain, whose packets were gathered
pub drains_one : (i n j : ℕ) (x : Exchange) {old mid new : List Exchange} {h k l : List (List ℕ)} → DrainsInto i (Ok n) old mid h k → x.request ≡ requests.Drain → new ≡ mid ++ x ∷ []
    → l ≡ k ++ packets_in_answer x.answer → j ≡ length (packets_in_answer x.answer) → DrainsInto (i + 1) (Ok (n + j)) old new h l
drains_one i n j x {old = old} {h = h} so asked grown held count = record {
  exchanges = so.exchanges ++ x ∷ [];
  grown = grown_more old so.exchanges (x ∷ []) so.grown grown;
  drains = drains_append so.exchanges (x ∷ []) so.drains (asked, tt);
  few = omega (arith, so.few, length-append so.exchanges (x ∷ []));
  gathers = held ∙ (ap (λ (z : List (List ℕ)). z ++ packets_in_answer x.answer) so.gathers ∙ (append_assoc h (packets_in_answers so.exchanges) (packets_in_answer x.answer) ∙ ap (λ (z : List (List ℕ)). h ++ z) (sym (behind_one so.exchanges x))));
  counts = λ m is. omega (arith, ok_is is, so.counts n refl, count, ap (λ (z : List (List ℕ)). length z) (behind_one so.exchanges x), length-append (packets_in_answers so.exchanges) (packets_in_answer x.answer));
}

-- one more Drain, for whose packets there was no memory
pub drains_lost : (i n : ℕ) (e : ServeError) (x : Exchange) {old mid new : List Exchange} {h k l : List (List ℕ)} → DrainsInto i (Ok n) old mid h k → x.request ≡ requests.Drain → new ≡ mid ++ x ∷ []
    → l ≡ [] → packets_in_answer x.answer ≢ [] → e ≡ errors.NoRoom → DrainsInto (i + 1) (Err e) old new h l
drains_lost i n e x {old = old} so asked grown none some room = rw (room) (record {
  exchanges = so.exchanges ++ x ∷ [];
  grown = grown_more old so.exchanges (x ∷ []) so.grown grown;
  drains = drains_append so.exchanges (x ∷ []) so.drains (asked, tt);
  few = omega (arith, so.few, length-append so.exchanges (x ∷ []));
  gathers = (rw (behind_one so.exchanges x) (behind≢nil (packets_in_answers so.exchanges) (packets_in_answer x.answer) some), none);
  counts = λ m is. absurd (no_ok is);
})

unlost : (e : StationError) (xs : List Exchange) (h k : List (List ℕ)) → k ≡ h ++ packets_in_answers xs → Gathered {R = ℕ} (Err (refused_with e)) xs h k
unlost refusals.Memory xs h k g = g
unlost refusals.JournalFull xs h k g = g

-- one more, which was refused
pub drains_refused : (i n : ℕ) (e : StationError) {old mid new : List Exchange} {h k : List (List ℕ)} → DrainsInto i (Ok n) old mid h k → new ≡ mid → DrainsInto i (Err (refused_with e)) old new h k
drains_refused i n e {h = h} {k = k} so same = record { exchanges = so.exchanges; grown = same ∙ so.grown; drains = so.drains; few = so.few; gathers = unlost e so.exchanges h k so.gathers; counts = λ m is. absurd (no_ok is) }

-- packets that were gathered came through no end
gathered_moves : (r : Result ℕ ServeError) (xs : List Exchange) (b k l : List (List ℕ)) → Gathered r xs k l → MovesSoFar r b k b l (packets_in_answers xs)
gathered_moves (Ok n) xs b k l g = moves_in (packets_in_answers xs) refl g
gathered_moves (Err errors.Read) xs b k l g = moves_in (packets_in_answers xs) refl g
gathered_moves (Err errors.Write) xs b k l g = absurd g
gathered_moves (Err (errors.BadLength n)) xs b k l g = moves_in (packets_in_answers xs) refl g
gathered_moves (Err errors.Truncated) xs b k l g = moves_in (packets_in_answers xs) refl g
gathered_moves (Err errors.Memory) xs b k l g = moves_in (packets_in_answers xs) refl g
gathered_moves (Err errors.TurnsSpent) xs b k l g = moves_in (packets_in_answers xs) refl g
gathered_moves (Err errors.JournalFull) xs b k l g = moves_in (packets_in_answers xs) refl g
gathered_moves (Err errors.NoRoom) xs b k l g = (lost_in k (packets_in_answers xs) refl g.0, g.1)

-- Drains behind room for their packets
pub pumps_drained : (most : ℕ) (r : Result ℕ ServeError) {old new : List Exchange} {a h b k l : List (List ℕ)} → Moves a h b k [] → DrainsInto most r old new k l → PumpsHeld r old new a h b l
pumps_drained most r {a = a} {h = h} {b = b} {k = k} {l = l} room x = record {
  exchanges = x.exchanges;
  grown = x.grown;
  drains = x.drains;
  moves = moves_more r a b b h k l [] (packets_in_answers x.exchanges) room (gathered_moves r x.exchanges b k l x.gathers);
  counts = x.counts;
}

pumped_of : (r : Result ℕ ServeError) (xs : List Exchange) (a b : List (List ℕ)) → IfErr r IsInterruption → AllDrains xs → MovesSoFar r a [] b [] (packets_in_answers xs) → Pumped r xs a b
pumped_of (Ok n) xs a b i d x = record { drains = d; put = all_put (packets_in_answers xs) x }
pumped_of (Err errors.Write) xs a b i d x = record { drains = d; handed = x.0 }
pumped_of (Err errors.Memory) xs a b i d x = record { drains = d; put = all_put (packets_in_answers xs) x }
pumped_of (Err errors.JournalFull) xs a b i d x = record { drains = d; put = all_put (packets_in_answers xs) x }
pumped_of (Err errors.NoRoom) xs a b i d x = record { drains = d; handed = x.0 }
pumped_of (Err errors.Read) xs a b i d x = absurd i
pumped_of (Err (errors.BadLength n)) xs a b i d x = absurd i
pumped_of (Err errors.Truncated) xs a b i d x = absurd i
pumped_of (Err errors.TurnsSpent) xs a b i d x = absurd i

-- all of it, and the batch was put behind it
pub pumps_of : (r : Result ℕ ServeError) {old new : List Exchange} {a h b k c : List (List ℕ)} → h ≡ [] → IfErr r IsInterruption → c ≡ b ++ k → PumpsHeld r old new a h b k → Pumps r old new a c
pumps_of r {a = a} {h = h} {b = b} {k = k} {c = c} none i e x =
    let all : MovesSoFar r a h c [] (packets_in_answers x.exchanges) = moves_put {A = ℕ} r a b c h k [] (packets_in_answers x.exchanges) x.moves e refl in
    let moves : MovesSoFar r a [] c [] (packets_in_answers x.exchanges) = subst (λ (z : List (List ℕ)). MovesSoFar r a z c [] (packets_in_answers x.exchanges)) none all in
    record { exchanges = x.exchanges; grown = x.grown; puts = pumped_of r x.exchanges a c i x.drains moves; counts = x.counts }

unput_drains : (e : ServeError) (xs : List Exchange) (a b : List (List ℕ)) → IsLeftUnput e → DrainsUpTo xs a b → Pumped {R = ℕ} (Err e) xs a b
unput_drains e xs a b unput d = ⊎_elim (λ w. rw w d) (λ w. rw w d) (unput_is e unput)

-- and it was handed back, or had no memory
pub pumps_lost : (r : Result ℕ ServeError) (e : ServeError) {old new : List Exchange} {a h b k c : List (List ℕ)} → IsLeftUnput e → h ≡ [] → c ≡ b → k ≢ [] → PumpsHeld r old new a h b k → Pumps (Err e) old new a c
pumps_lost r e {a = a} {h = h} {b = b} {k = k} {c = c} unput none same some x =
    let all : IsHandedBack (h ++ packets_in_answers x.exchanges) a c = moves_back {A = ℕ} r a b c h k (packets_in_answers x.exchanges) x.moves same some in
    let back : IsHandedBack (packets_in_answers x.exchanges) a c = subst (λ (z : List (List ℕ)). IsHandedBack (z ++ packets_in_answers x.exchanges) a c) none all in
    record { exchanges = x.exchanges; grown = x.grown; puts = unput_drains e x.exchanges a c unput (record { drains = x.drains; handed = back }); counts = λ m is. absurd (no_ok is) }

-- a station's refusal, as an error of serving, interrupts the call
pub stops_so : (e : StationError) → IsInterruption (refused_with e)
stops_so refusals.Memory = tt
stops_so refusals.JournalFull = tt

-- a station that is left as it was and may refuse a Drain has refused the Drain that comes next
pub drain_refused : {S : Type 0} (exchanges_of : S → List Exchange) (refuses : S → Request → StationError → Type 0) (e : StationError) (state new : S)
    → new ≡ state → refuses new requests.Drain e → StationRefused exchanges_of refuses e DrainAgain (exchanges_of state) new
drain_refused exchanges_of refuses e state new same may = record {
  exchanges = [];
  grown = ap exchanges_of same ∙ sym (append-nil (exchanges_of state));
  request = requests.Drain;
  next = (tt, refl);
  may = may;
}

-- a request that is one more Drain behind Drains is so with earlier Drains before them
pub again : (xs ys : List Exchange) (q : Request) → AllDrains xs → DrainAgain ys q → DrainAgain (xs ++ ys) q
again xs ys q h k = (drains_append xs ys h k.0, k.1)
