-- Packets that go through a batch to an end.
use Rattle.std.proofs.Common.{◌≡◌, ◌≢◌, ℕ, List, [], ◌∷◌, ◌++◌, Result, Ok, Err, IfErr, ◌⊎◌, ⊎_elim, inl, inr, refl, sym, ap, ◌∙◌, append_assoc}
use Rattle.std.proofs.lemmas.List.{append-nil}
use Rattle.xcp_framing.specs.declared.station.StationError.{StationError}
use Rattle.xcp_framing.specs.declared.serving.ServeError.{ServeError}
use Rattle.xcp_framing.specs.declared.serving.ServeError.TheVariants as errors
use Rattle.xcp_framing.specs.ServeBy.{IsHandedBack}
use Rattle.xcp_framing.specs.ServeParts.{IsInterruption}
use Rattle.xcp_framing.specs.ServeRefusal.{OnRefusal}
use Rattle.xcp_framing.specs.private.PutOutput.{IsLeftUnput, Moves, MovesSoFar}
use Rattle.xcp_framing.proofs.ExchangeLemmas.{cons≢nil}

-- where packets were left unput, a batch was handed back, or had no memory
pub unput_is : (e : ServeError) → IsLeftUnput e → (e ≡ errors.Write) ⊎ (e ≡ errors.NoRoom)
unput_is errors.Write u = inl refl
unput_is errors.Memory u = absurd u
unput_is errors.JournalFull u = absurd u
unput_is errors.NoRoom u = inr refl
unput_is errors.Read u = absurd u
unput_is (errors.BadLength w) u = absurd u
unput_is errors.Truncated u = absurd u
unput_is errors.TurnsSpent u = absurd u

-- then a front of the packets was put, and nothing is held
pub moves_lost : (A : Type 0) (e : ServeError) (a b h k m : List (List ℕ)) → IsLeftUnput e → IsHandedBack (h ++ m) a b → k ≡ [] → MovesSoFar {A = A} (Err e) a h b k m
moves_lost A e a b h k m u x none = ⊎_elim (λ w. rw w (x, none)) (λ w. rw w (x, none)) (unput_is e u)

-- and the same, whatever else the call gives
pub moves_as : (A B : Type 0) (e : ServeError) (a b h k m : List (List ℕ)) → IsLeftUnput e → MovesSoFar {A = A} (Err e) a h b k m → MovesSoFar {A = B} (Err e) a h b k m
moves_as A B e a b h k m u x = ⊎_elim (λ w. let y = rw w at x in rw w y) (λ w. let y = rw w at x in rw w y) (unput_is e u)

-- and no request was refused
pub none_refused : (A : Type 0) (e : ServeError) (F : StationError → Type 0) → IsLeftUnput e → OnRefusal {A = A} (Err e) F
none_refused A e F u = ⊎_elim (λ w. rw w tt) (λ w. rw w tt) (unput_is e u)

-- it is an interruption
pub unput_stops : (e : ServeError) → IsLeftUnput e → IsInterruption e
unput_stops e u = ⊎_elim (λ w. rw w tt) (λ w. rw w tt) (unput_is e u)

-- where the error of a result left packets unput, it is an interruption
pub unput_stops_any : {A : Type 0} (r : Result A ServeError) → IfErr r IsLeftUnput → IfErr r IsInterruption
unput_stops_any (Ok v) u = tt
unput_stops_any (Err e) u = unput_stops e u

-- no packet moves
pub moves_none : (a h : List (List ℕ)) → Moves a h a h []
moves_none a h = record { moved = []; grown = sym (append-nil a); rest = sym (append-nil h) }

-- packets come into the batch
pub moves_in : {a b h k : List (List ℕ)} (ps : List (List ℕ)) → b ≡ a → k ≡ h ++ ps → Moves a h b k ps
moves_in {a = a} ps e f = record { moved = []; grown = e ∙ sym (append-nil a); rest = f }

-- behind others, some are some
pub behind≢nil : (xs ys : List (List ℕ)) → ys ≢ [] → xs ++ ys ≢ []
behind≢nil [] ys n = n
behind≢nil (x ∷ xs) ys n = cons≢nil

-- packets did not come into the batch, and it is given up
pub lost_in : {a b : List (List ℕ)} (h ps : List (List ℕ)) → b ≡ a → ps ≢ [] → IsHandedBack (h ++ ps) a b
lost_in {a = a} h ps e n = record { front = []; back = h ++ ps; joined = refl; some = behind≢nil h ps n; put = e ∙ sym (append-nil a) }

joined_more : (h m n k moved : List (List ℕ)) → moved ++ k ≡ h ++ m → h ++ (m ++ n) ≡ moved ++ (k ++ n)
joined_more h m n k moved e = sym (append_assoc h m n) ∙ (ap (λ (z : List (List ℕ)). z ++ n) (sym e) ∙ append_assoc moved k n)

-- packets that move, and then more, move as all of them, the ones behind the others
pub both_move : {a b c h k l : List (List ℕ)} (m n : List (List ℕ)) → Moves a h b k m → Moves b k c l n → Moves a h c l (m ++ n)
both_move {a = a} {h = h} {k = k} {l = l} m n x y = record {
  moved = x.moved ++ y.moved;
  grown = y.grown ∙ (ap (λ (z : List (List ℕ)). z ++ y.moved) x.grown ∙ append_assoc a x.moved y.moved);
  rest = append_assoc x.moved y.moved l ∙ (ap (λ (z : List (List ℕ)). x.moved ++ z) y.rest ∙ sym (joined_more h m n k x.moved x.rest));
}

back_behind : {a b c h k : List (List ℕ)} (m n : List (List ℕ)) → Moves a h b k m → IsHandedBack (k ++ n) b c → IsHandedBack (h ++ (m ++ n)) a c
back_behind {a = a} {h = h} {k = k} m n x y = record {
  front = x.moved ++ y.front;
  back = y.back;
  joined = joined_more h m n k x.moved x.rest ∙ (ap (λ (z : List (List ℕ)). x.moved ++ z) y.joined ∙ sym (append_assoc x.moved y.front y.back));
  some = y.some;
  put = y.put ∙ (ap (λ (z : List (List ℕ)). z ++ y.front) x.grown ∙ append_assoc a x.moved y.front);
}

-- packets, and then more
pub moves_more : {A : Type 0} (r : Result A ServeError) (a b c h k l m n : List (List ℕ)) → Moves a h b k m → MovesSoFar r b k c l n → MovesSoFar r a h c l (m ++ n)
moves_more (Ok v) a b c h k l m n x y = both_move m n x y
moves_more (Err errors.Write) a b c h k l m n x y = (back_behind m n x y.0, y.1)
moves_more (Err errors.Memory) a b c h k l m n x y = both_move m n x y
moves_more (Err errors.JournalFull) a b c h k l m n x y = both_move m n x y
moves_more (Err errors.NoRoom) a b c h k l m n x y = (back_behind m n x y.0, y.1)
moves_more (Err errors.Read) a b c h k l m n x y = both_move m n x y
moves_more (Err (errors.BadLength w)) a b c h k l m n x y = both_move m n x y
moves_more (Err errors.Truncated) a b c h k l m n x y = both_move m n x y
moves_more (Err errors.TurnsSpent) a b c h k l m n x y = both_move m n x y

-- the batch was put
pub put_on : {a b c h k l : List (List ℕ)} (m : List (List ℕ)) → Moves a h b k m → c ≡ b ++ k → l ≡ [] → Moves a h c l m
put_on {a = a} {k = k} m x e f = record {
  moved = x.moved ++ k;
  grown = e ∙ (ap (λ (z : List (List ℕ)). z ++ k) x.grown ∙ append_assoc a x.moved k);
  rest = ap (λ (z : List (List ℕ)). (x.moved ++ k) ++ z) f ∙ (append-nil (x.moved ++ k) ∙ x.rest);
}

none_on : (a b c h k m : List (List ℕ)) → IsHandedBack (h ++ m) a b → k ≡ [] → c ≡ b ++ k → IsHandedBack (h ++ m) a c
none_on a b c h k m x none e = record { front = x.front; back = x.back; joined = x.joined; some = x.some; put = e ∙ (ap (λ (z : List (List ℕ)). b ++ z) none ∙ (append-nil b ∙ x.put)) }

-- whatever ended the call, the batch was put behind it
pub moves_put : {A : Type 0} (r : Result A ServeError) (a b c h k l m : List (List ℕ)) → MovesSoFar r a h b k m → c ≡ b ++ k → l ≡ [] → MovesSoFar r a h c l m
moves_put (Ok v) a b c h k l m x e f = put_on m x e f
moves_put (Err errors.Write) a b c h k l m x e f = (none_on a b c h k m x.0 x.1 e, f)
moves_put (Err errors.Memory) a b c h k l m x e f = put_on m x e f
moves_put (Err errors.JournalFull) a b c h k l m x e f = put_on m x e f
moves_put (Err errors.NoRoom) a b c h k l m x e f = (none_on a b c h k m x.0 x.1 e, f)
moves_put (Err errors.Read) a b c h k l m x e f = put_on m x e f
moves_put (Err (errors.BadLength w)) a b c h k l m x e f = put_on m x e f
moves_put (Err errors.Truncated) a b c h k l m x e f = put_on m x e f
moves_put (Err errors.TurnsSpent) a b c h k l m x e f = put_on m x e f

-- the batch was handed back
pub back_on : {a b c h k : List (List ℕ)} (m : List (List ℕ)) → Moves a h b k m → c ≡ b → k ≢ [] → IsHandedBack (h ++ m) a c
back_on {k = k} m x e n = record { front = x.moved; back = k; joined = sym x.rest; some = n; put = e ∙ x.grown }

-- the whole batch was
pub all_back : (A : Type 0) (e : ServeError) {a b h k : List (List ℕ)} → IsLeftUnput e → b ≡ a → h ≢ [] → k ≡ [] → MovesSoFar {A = A} (Err e) a h b k []
all_back A e {a = a} {h = h} u same some none = moves_lost A e _ _ _ _ _ u (back_on [] (moves_none a h) same some) none

-- whatever ended the call, the batch was handed back behind it
pub moves_back : {A : Type 0} (r : Result A ServeError) (a b c h k m : List (List ℕ)) → MovesSoFar r a h b k m → c ≡ b → k ≢ [] → IsHandedBack (h ++ m) a c
moves_back (Ok v) a b c h k m x e n = back_on m x e n
moves_back (Err errors.Write) a b c h k m x e n = absurd (n x.1)
moves_back (Err errors.Memory) a b c h k m x e n = back_on m x e n
moves_back (Err errors.JournalFull) a b c h k m x e n = back_on m x e n
moves_back (Err errors.NoRoom) a b c h k m x e n = absurd (n x.1)
moves_back (Err errors.Read) a b c h k m x e n = back_on m x e n
moves_back (Err (errors.BadLength w)) a b c h k m x e n = back_on m x e n
moves_back (Err errors.Truncated) a b c h k m x e n = back_on m x e n
moves_back (Err errors.TurnsSpent) a b c h k m x e n = back_on m x e n

-- with nothing held before and behind, all were put
pub all_put : {a b : List (List ℕ)} (m : List (List ℕ)) → Moves a [] b [] m → b ≡ a ++ m
all_put {a = a} m x = x.grown ∙ ap (λ (z : List (List ℕ)). a ++ z) (sym (append-nil x.moved) ∙ x.rest)
