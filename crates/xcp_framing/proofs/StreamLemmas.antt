-- A whole stream, read piece by piece.
use Rattle.std.proofs.Common.{◌≡◌, ◌≢◌, ℕ, List, [], ◌∷◌, ◌++◌, length, take, Option, Some, None, Err, refl, sym, ap, subst, ◌∙◌, append_assoc}
use Rattle.std.proofs.Math.Seq.{take-append_seam}
use Rattle.std.proofs.lemmas.List.{append-nil}
use Rattle.std.proofs.KnownBytes.{Consumes-nil, Consumes-trans}
use Rattle.std.specs.Io.KnownBytes.{Consumes, Keeps}
use Rattle.xcp_framing.specs.declared.serving.ServeError.{ServeError}
use Rattle.xcp_framing.specs.declared.serving.ServeError.TheVariants as errors
use Rattle.xcp_framing.specs.CountedCalls.{StreamPlace}
use Rattle.xcp_framing.specs.Frames.{frames, rest}
use Rattle.xcp_framing.specs.Serve.{OnRead, EndsStream, EndsReader}
use Rattle.xcp_framing.specs.private.GrowingOutput.{EndsPiece}
use Rattle.xcp_framing.proofs.FrameCutLaws.{cuts_alike}
use Rattle.xcp_framing.proofs.ExchangeLemmas.{cons≢nil}

-- packets and a rest are those of a stream
abbrev IsOf : ℕ → List (List ℕ) → List ℕ → List ℕ → Type 0
IsOf m packets behind stream = (packets ≡ frames m stream) × (behind ≡ rest m stream)

-- what was kept was not consumed
consumes_kept : (i o n : Option (List ℕ)) (s : List ℕ) → Consumes i o s → Keeps o n → Consumes i n s
consumes_kept None o n s h k = tt
consumes_kept (Some xs) None n s h k = absurd h
consumes_kept (Some xs) (Some ys) None s h k = absurd k
consumes_kept (Some xs) (Some ys) (Some zs) s h k = h ∙ ap (λ (z : List ℕ). s ++ z) (sym k)

-- nothing was read
pub read_none : (m : ℕ) (i : StreamPlace) → OnRead i i (IsOf m [] [])
read_none m i = record { stream = []; gave = sym (append-nil i.read); known = Consumes-nil i.left; fact = (refl, refl) }

-- no more was read
pub read_kept : (i o n : StreamPlace) (Fact : List ℕ → Type 0) → OnRead i o Fact → Keeps o.left n.left → n.read ≡ o.read → OnRead i n Fact
read_kept i o n Fact h k same = record { stream = h.stream; gave = same ∙ h.gave; known = consumes_kept i.left o.left n.left h.stream h.known k; fact = h.fact }

-- a read that gives no bytes leaves the reader's bytes as they were
pub keeps_end : (o n : Option (List ℕ)) → Consumes o n [] → Keeps o n
keeps_end None n h = tt
keeps_end (Some xs) None h = absurd h
keeps_end (Some xs) (Some ys) h = sym h

-- a piece more was read
pub read_more : (m : ℕ) (i o n : StreamPlace) (packets : List (List ℕ)) (held chunk : List ℕ) → OnRead i o (IsOf m packets held) → Consumes o.left n.left chunk → n.read ≡ o.read ++ chunk
    → OnRead i n (IsOf m (packets ++ frames m (held ++ chunk)) (rest m (held ++ chunk)))
read_more m i o n packets held chunk h k more =
    let cut = cuts_alike m h.stream chunk in
    record {
      stream = h.stream ++ chunk;
      gave = more ∙ ap (λ (z : List ℕ). z ++ chunk) h.gave ∙ append_assoc i.read h.stream chunk;
      known = Consumes-trans i.left o.left n.left h.stream chunk h.known k;
      fact = (rw (h.fact.0, h.fact.1) (sym cut.0), rw (h.fact.1) (sym cut.1));
    }

-- how a piece ended is how the stream ended
pub ends_as : (A : Type 0) (m : ℕ) (e : ServeError) (held left : List ℕ) → EndsPiece {A = A} m (Err e) held left → EndsStream m (Err e) left
ends_as A m errors.Read held left h = absurd h
ends_as A m errors.Write held left h = tt
ends_as A m (errors.BadLength n) held left h = h
ends_as A m errors.Truncated held left h = absurd h
ends_as A m errors.Memory held left h = tt
ends_as A m errors.TurnsSpent held left h = absurd h
ends_as A m errors.JournalFull held left h = tt
ends_as A m errors.NoRoom held left h = tt

-- an interruption is no end of the reader
pub reader_goes_on : (A : Type 0) (m : ℕ) (e : ServeError) (held left : List ℕ) (after : Option (List ℕ)) → EndsPiece {A = A} m (Err e) held left → EndsReader (Err e) after
reader_goes_on A m errors.Read held left after h = tt
reader_goes_on A m errors.Write held left after h = tt
reader_goes_on A m (errors.BadLength n) held left after h = tt
reader_goes_on A m errors.Truncated held left after h = absurd h
reader_goes_on A m errors.Memory held left after h = tt
reader_goes_on A m errors.TurnsSpent held left after h = tt
reader_goes_on A m errors.JournalFull held left after h = tt
reader_goes_on A m errors.NoRoom held left after h = tt

-- how a piece ended, told of equal numbers and bytes
pub ends_for : (A : Type 0) (m m' : ℕ) (e : ServeError) (left held chunk chunk' : List ℕ) → m' ≡ m → chunk' ≡ chunk
    → EndsPiece {A = A} m' (Err e) left (rest m' (held ++ chunk')) → EndsPiece {A = A} m (Err e) left (rest m (held ++ chunk))
ends_for A m m' e left held chunk chunk' same equal f =
    subst (λ (t : List ℕ). EndsPiece {A = A} m (Err e) left (rest m (held ++ t))) equal
    (subst (λ (x : ℕ). EndsPiece {A = A} x (Err e) left (rest x (held ++ chunk'))) same f)

-- what was read into the whole buffer is what the buffer holds
pub whole_buffer : (n : ℕ) (xs ys : List ℕ) → length xs ≡ n → take n (xs ++ ys) ≡ xs
whole_buffer n xs ys h = rw (← h) (take-append_seam xs ys)

-- a list that isn't some elements is none
pub nothing_held : (xs : List ℕ) → ¬ (xs ≢ []) → xs ≡ []
nothing_held [] h = refl
nothing_held (x ∷ xs) h = absurd (h cons≢nil)
