-- A stream, answered packet by packet, whatever answers them.
use Rattle.std.proofs.Common.{◌≡◌, ◌≢◌, ◌+◌, ℕ, List, [], ◌∷◌, ◌++◌, length, drop, Result, Ok, Err, refl, sym, ap, ◌∙◌, arith, append_assoc, length-append}
use Rattle.std.proofs.lemmas.List.{append-nil, drop-drop}
use Rattle.std.specs.Io.KnownBytes.{Consumes, Keeps}
use Rattle.xcp_framing.specs.declared.serving.Served.{Served}
use Rattle.xcp_framing.specs.declared.serving.ServeError.{ServeError}
use Rattle.xcp_framing.specs.declared.serving.ServeError.TheVariants as errors
use Rattle.xcp_framing.specs.Wire.{len_of, IsBadLength}
use Rattle.xcp_framing.specs.CountedCalls.{StreamPlace}
use Rattle.xcp_framing.specs.Frames.{frames, rest}
use Rattle.xcp_framing.specs.FramerInput.{Feeds}
use Rattle.xcp_framing.specs.Serve.{OnRead, EndsStream}
use Rattle.xcp_framing.specs.ServeParts.{IsInterruption}
use Rattle.xcp_framing.specs.private.GrowingOutput.{EndsPiece}
use Rattle.xcp_framing.specs.private.AnsweredStream.{Streams, outcome}
use Rattle.xcp_framing.proofs.PieceLemmas.{ahead, ahead_none, bad_stays}
use Rattle.xcp_framing.proofs.StreamLemmas.{read_none, read_kept, keeps_end, read_more, ends_as}

-- an interruption is what became of the packets
pub outcome_of : (R : Type 0) (e : ServeError) → IsInterruption e → outcome {R = R} (Err e) ≡ Err e
outcome_of R errors.Write i = refl
outcome_of R errors.Memory i = refl
outcome_of R errors.JournalFull i = refl
outcome_of R errors.NoRoom i = refl
outcome_of R errors.Read i = absurd i
outcome_of R (errors.BadLength n) i = absurd i
outcome_of R errors.Truncated i = absurd i
outcome_of R errors.TurnsSpent i = absurd i

-- an error tells the same of the packets, whatever else the call gives
outcome_as : (R Q : Type 0) (e : ServeError) → outcome {R = R} (Err e) ≡ outcome {R = Q} (Err e)
outcome_as R Q errors.Write = refl
outcome_as R Q errors.Memory = refl
outcome_as R Q errors.JournalFull = refl
outcome_as R Q errors.NoRoom = refl
outcome_as R Q errors.Read = refl
outcome_as R Q (errors.BadLength n) = refl
outcome_as R Q errors.Truncated = refl
outcome_as R Q errors.TurnsSpent = refl

-- an interruption leaves open what stands behind the packets
pub ends_interrupted : (m : ℕ) (e : ServeError) (left : List ℕ) → IsInterruption e → EndsStream m (Err e) left
ends_interrupted m errors.Write left i = tt
ends_interrupted m errors.Memory left i = tt
ends_interrupted m errors.JournalFull left i = tt
ends_interrupted m errors.NoRoom left i = tt
ends_interrupted m errors.Read left i = absurd i
ends_interrupted m (errors.BadLength n) left i = absurd i
ends_interrupted m errors.Truncated left i = absurd i
ends_interrupted m errors.TurnsSpent left i = absurd i

-- the same of a piece
pub piece_interrupted : (R : Type 0) (m : ℕ) (e : ServeError) (held left : List ℕ) → IsInterruption e → EndsPiece {A = R} m (Err e) held left
piece_interrupted R m errors.Write held left i = tt
piece_interrupted R m errors.Memory held left i = tt
piece_interrupted R m errors.JournalFull held left i = tt
piece_interrupted R m errors.NoRoom held left i = tt
piece_interrupted R m errors.Read held left i = absurd i
piece_interrupted R m (errors.BadLength n) held left i = absurd i
piece_interrupted R m errors.Truncated held left i = absurd i
piece_interrupted R m errors.TurnsSpent held left i = absurd i

-- The packets of a piece's front of `used` bytes were answered: `done`.
pub record Uses {A : Type 0} (Answers : Result (Unit {0}) ServeError → List (List ℕ) → A → A → Type 0) (m : ℕ) (h s left : List ℕ) (used : ℕ) (old now : A) (first count : ℕ) : Type 0 where
  pub done : List (List ℕ)
  pub answered : Answers (Ok tt) done old now
  pub packets : frames m (h ++ s) ≡ done ++ frames m (left ++ drop used s)
  pub behind : rest m (h ++ s) ≡ rest m (left ++ drop used s)
  pub counted : count ≡ first + length done

-- The bytes read so far, all of whose packets were answered.
pub record Along {A : Type 0} (Answers : Result (Unit {0}) ServeError → List (List ℕ) → A → A → Type 0) (m : ℕ) (from to : StreamPlace) (held : List ℕ) (old now : A) (count : ℕ) : Type 0 where
  pub packets : List (List ℕ)
  pub read : OnRead from to (λ stream. (packets ≡ frames m stream) × (held ≡ rest m stream))
  pub answered : Answers (Ok tt) packets old now
  pub counted : count ≡ length packets
  pub good : ¬ IsBadLength m held

abbrev IsOf : ℕ → List (List ℕ) → List ℕ → List ℕ → Type 0
IsOf m packets behind stream = (packets ≡ frames m stream) × (behind ≡ rest m stream)

module _ {A : Type 0} (Answers : Result (Unit {0}) ServeError → List (List ℕ) → A → A → Type 0) where
  -- before any byte of a piece is used, no packet of it is answered
  pub uses_none : ((a : A) → Answers (Ok tt) [] a a) → (m : ℕ) (h s : List ℕ) (old : A) (first : ℕ) → Uses Answers m h s h 0 old old first first
  uses_none none m h s old first = record { done = []; answered = none old; packets = refl; behind = refl; counted = omega arith }

  -- one packet more
  pub uses_more : ((r : Result (Unit {0}) ServeError) (ps qs : List (List ℕ)) (a b c : A) → Answers (Ok tt) ps a b → Answers r qs b c → Answers r (ps ++ qs) a c)
      → (m j : ℕ) (h s t r left : List ℕ) (p : List ℕ) {used : ℕ} (old now new : A) {first count : ℕ}
      → Uses Answers m h s r used old now first count → t ≡ drop used s → Feeds m r t j (p ∷ []) left → Answers (Ok tt) (p ∷ []) now new
      → Uses Answers m h s left (used + j) old new first (count + 1)
  uses_more more m j h s t r left p {used = used} old now new {first = first} {count = count} x e f g =
      let step = ahead m j r t left f in
      let further : drop j t ≡ drop (used + j) s = ap (drop j) e ∙ drop-drop j used s ∙ ap (λ (n : ℕ). drop n s) (omega arith) in
      let packets' : frames m (r ++ t) ≡ (p ∷ []) ++ frames m (left ++ drop (used + j) s) = step.0 ∙ rw further refl in
      record {
        done = x.done ++ p ∷ [];
        answered = more (Ok tt) x.done (p ∷ []) old now new x.answered g;
        packets = x.packets ∙ rw (← e) (ap (λ (z : List (List ℕ)). x.done ++ z) packets' ∙ sym (append_assoc x.done (p ∷ []) (frames m (left ++ drop (used + j) s))));
        behind = x.behind ∙ rw (← e) (step.1 ∙ rw further refl);
        counted = omega (arith, x.counted, length-append x.done (p ∷ []));
      }

  -- the piece is used up
  pub uses_all : (m j : ℕ) (h s t r left : List ℕ) {used : ℕ} (old now : A) {first count : ℕ}
      → Uses Answers m h s r used old now first count → t ≡ drop used s → Feeds m r t j [] left → j ≡ length t
      → Answers (Ok tt) (frames m (h ++ s)) old now × (left ≡ rest m (h ++ s)) × (count ≡ first + length (frames m (h ++ s)))
  uses_all m j h s t r left {used = used} old now {first = first} {count = count} x e f k =
      let end = ahead_none m j r t left k f in
      let all : frames m (h ++ s) ≡ x.done = x.packets ∙ rw (← e, end.0) (append-nil x.done) in
      (rw all x.answered, end.1 ∙ rw e (sym x.behind), rw all x.counted)

  -- a LEN above m
  pub uses_bad : (m j n : ℕ) (h s t r left : List ℕ) {used : ℕ} (old now : A) {first count : ℕ}
      → Uses Answers m h s r used old now first count → t ≡ drop used s → Feeds m r t j [] left → n ≡ len_of left → IsBadLength m left
      → Answers (Ok tt) (frames m (h ++ s)) old now × (n ≡ len_of (rest m (h ++ s))) × IsBadLength m (rest m (h ++ s))
  uses_bad m j n h s t r left {used = used} old now x e f l bad =
      let step = ahead m j r t left f in
      let stay = bad_stays m left (drop j t) bad in
      let all : frames m (h ++ s) ≡ x.done = x.packets ∙ rw (← e, step.0, stay.0) (append-nil x.done) in
      let end : rest m (h ++ s) ≡ rest m (left ++ drop j t) = x.behind ∙ rw (← e) step.1 in
      (rw all x.answered, rw end (l ∙ sym stay.1), rw end stay.2)

  -- a packet at which the call was interrupted
  pub uses_part : ((r : Result (Unit {0}) ServeError) (ps qs : List (List ℕ)) (a b c : A) → Answers (Ok tt) ps a b → Answers r qs b c → Answers r (ps ++ qs) a c)
      → ((e : ServeError) (ps qs : List (List ℕ)) (a b : A) → IsInterruption e → Answers (Err e) ps a b → Answers (Err e) (ps ++ qs) a b)
      → (R : Type 0) (m j : ℕ) (e : ServeError) (h s t r left : List ℕ) (p : List ℕ) {used : ℕ} (old now new : A) {first count : ℕ}
      → IsInterruption e → Uses Answers m h s r used old now first count → t ≡ drop used s → Feeds m r t j (p ∷ []) left → Answers (Err e) (p ∷ []) now new
      → Answers (outcome {R = R} (Err e)) (frames m (h ++ s)) old new
  uses_part more before R m j e h s t r left p old now new i x d f g =
      let step = ahead m j r t left f in
      let later = frames m (left ++ drop j t) in
      let all : frames m (h ++ s) ≡ (x.done ++ p ∷ []) ++ later = x.packets ∙ rw (← d, step.0) (sym (append_assoc x.done (p ∷ []) later)) in
      rw (outcome_of R e i, all) (before e (x.done ++ p ∷ []) later old new i (more (Err e) x.done (p ∷ []) old now new x.answered g))

  -- before the first read nothing is held, and no packet is answered
  pub along_start : ((a : A) → Answers (Ok tt) [] a a) → (m : ℕ) (i : StreamPlace) (old : A) → Along Answers m i i [] old old 0
  along_start none m i old = record { packets = []; read = read_none m i; answered = none old; counted = refl; good = λ bad. omega (arith, bad.there) }

  -- after one more read
  pub along_more : ((r : Result (Unit {0}) ServeError) (ps qs : List (List ℕ)) (a b c : A) → Answers (Ok tt) ps a b → Answers r qs b c → Answers r (ps ++ qs) a c)
      → (m : ℕ) (i o n : StreamPlace) (held left chunk : List ℕ) (old now new : A) {count count' : ℕ}
      → Along Answers m i o held old now count → Consumes o.left n.left chunk → n.read ≡ o.read ++ chunk → Answers (Ok tt) (frames m (held ++ chunk)) now new
      → left ≡ rest m (held ++ chunk) → ¬ IsBadLength m (rest m (held ++ chunk)) → count' ≡ count + length (frames m (held ++ chunk)) → Along Answers m i n left old new count'
  along_more more m i o n held left chunk old now new x k r g e q l =
      let next = frames m (held ++ chunk) in
      record {
        packets = x.packets ++ next;
        read = rw e (read_more m i o n x.packets held chunk x.read k r);
        answered = more (Ok tt) x.packets next old now new x.answered g;
        counted = omega (arith, l, x.counted, length-append x.packets next);
        good = rw e q;
      }

  -- a read failed
  pub streams_read : (m : ℕ) (i o n : StreamPlace) (held : List ℕ) (old now : A) {count : ℕ} → Along Answers m i o held old now count → Keeps o.left n.left → n.read ≡ o.read → Streams Answers m (Err errors.Read) i n old now
  streams_read m i o n held old now x k r = record { packets = x.packets; behind = held; read = read_kept i o n (IsOf m x.packets held) x.read k r; answered = x.answered; ends = x.good; counts = tt }

  -- all turns were spent
  pub streams_turns : (m : ℕ) (i o : StreamPlace) (held : List ℕ) (old now : A) {count : ℕ} → Along Answers m i o held old now count → Streams Answers m (Err errors.TurnsSpent) i o old now
  streams_turns m i o held old now x = record { packets = x.packets; behind = held; read = x.read; answered = x.answered; ends = x.good; counts = tt }

  -- the reader ended between two frames
  pub streams_all : (m : ℕ) (i o n : StreamPlace) (held : List ℕ) (old now : A) (served : Served) → Along Answers m i o held old now served.frames → Consumes o.left n.left [] → n.read ≡ o.read ++ [] → held ≡ [] → Streams Answers m (Ok served) i n old now
  streams_all m i o n held old now served x k r e = record { packets = x.packets; behind = held; read = read_kept i o n (IsOf m x.packets held) x.read (keeps_end o.left n.left k) (r ∙ append-nil o.read); answered = x.answered; ends = e; counts = x.counted }

  -- the reader ended inside a frame
  pub streams_truncated : (m : ℕ) (i o n : StreamPlace) (held : List ℕ) (old now : A) {count : ℕ} → Along Answers m i o held old now count → Consumes o.left n.left [] → n.read ≡ o.read ++ [] → held ≢ [] → Streams Answers m (Err errors.Truncated) i n old now
  streams_truncated m i o n held old now x k r e = record { packets = x.packets; behind = held; read = read_kept i o n (IsOf m x.packets held) x.read (keeps_end o.left n.left k) (r ∙ append-nil o.read); answered = x.answered; ends = (e, x.good); counts = tt }

  -- a piece ended the call
  pub streams_part : ((r : Result (Unit {0}) ServeError) (ps qs : List (List ℕ)) (a b c : A) → Answers (Ok tt) ps a b → Answers r qs b c → Answers r (ps ++ qs) a c)
      → (R : Type 0) (m : ℕ) (e : ServeError) (i o n : StreamPlace) (held left chunk : List ℕ) (old now new : A) {count : ℕ}
      → Along Answers m i o held old now count → Consumes o.left n.left chunk → n.read ≡ o.read ++ chunk → Answers (outcome {R = R} (Err e)) (frames m (held ++ chunk)) now new → EndsPiece {A = R} m (Err e) left (rest m (held ++ chunk)) → Streams Answers m (Err e) i n old new
  streams_part more R m e i o n held left chunk old now new x k r g f =
      let next = frames m (held ++ chunk) in
      record {
        packets = x.packets ++ next;
        behind = rest m (held ++ chunk);
        read = read_more m i o n x.packets held chunk x.read k r;
        answered = rw (outcome_as Served R e) (more (outcome {R = R} (Err e)) x.packets next old now new x.answered g);
        ends = ends_as R m e left (rest m (held ++ chunk)) f;
        counts = tt;
      }

  -- what was held back behind a piece could not be handed on
  pub streams_held : ((r : Result (Unit {0}) ServeError) (ps qs : List (List ℕ)) (a b c : A) → Answers (Ok tt) ps a b → Answers r qs b c → Answers r (ps ++ qs) a c)
      → (m : ℕ) (e : ServeError) (i o n : StreamPlace) (held chunk : List ℕ) (old now new : A) {count : ℕ}
      → IsInterruption e → Along Answers m i o held old now count → Consumes o.left n.left chunk → n.read ≡ o.read ++ chunk → Answers (Err e) (frames m (held ++ chunk)) now new → Streams Answers m (Err e) i n old new
  streams_held more m e i o n held chunk old now new j x k r g =
      let next = frames m (held ++ chunk) in
      record {
        packets = x.packets ++ next;
        behind = rest m (held ++ chunk);
        read = read_more m i o n x.packets held chunk x.read k r;
        answered = rw (outcome_of Served e j) (more (Err e) x.packets next old now new x.answered g);
        ends = ends_interrupted m e (rest m (held ++ chunk)) j;
        counts = tt;
      }
