-- Frames behind frames, and bytes behind bytes.
use Rattle.std.proofs.Common.{◌≡◌, ℕ, ◌+◌, ◌%◌, List, [], ◌∷◌, ◌++◌, length, sym, refl, ap, ◌∙◌, append_assoc, arith}
use Rattle.std.specs.Prelude.{Option, Some, None}
use Rattle.std.specs.Io.KnownBytes.{Appends}
use Rattle.std.proofs.lemmas.List.{append-nil}
use Rattle.xcp_framing.specs.Wire.{wire_from, frame_bytes}

-- no bytes are nothing more
pub appends_no_byte : (a : Option (List ℕ)) → Appends a a []
appends_no_byte None = tt
appends_no_byte (Some xs) = sym (append-nil xs)

-- bytes, and then more bytes
pub appends_both : (a b c : Option (List ℕ)) (xs ys : List ℕ) → Appends a b xs → Appends b c ys → Appends a c (xs ++ ys)
appends_both None b c xs ys h k = tt
appends_both (Some u) None c xs ys h k = absurd h
appends_both (Some u) (Some v) None xs ys h k = absurd k
appends_both (Some u) (Some v) (Some w) xs ys h k = k ∙ ap (λ (z : List ℕ). z ++ ys) h ∙ append_assoc u xs ys

-- the frames of packets, and then of more packets
pub wire_of_both : (k : ℕ) (ps qs : List (List ℕ)) → wire_from k (ps ++ qs) ≡ wire_from k ps ++ wire_from (k + length ps) qs
wire_of_both k [] qs = ap (λ (n : ℕ). wire_from n qs) (omega arith)
wire_of_both k (p ∷ ps) qs =
    ap (λ (t : List ℕ). frame_bytes k p ++ t) (wire_of_both (k + 1) ps qs)
    ∙ sym (append_assoc (frame_bytes k p) (wire_from (k + 1) ps) (wire_from ((k + 1) + length ps) qs))
    ∙ ap (λ (n : ℕ). (frame_bytes k p ++ wire_from (k + 1) ps) ++ wire_from n qs) (omega arith)

-- a frame's number counts modulo 65,536 alone
pub frame_counts : (n k : ℕ) (p : List ℕ) → n % 65536 ≡ k % 65536 → frame_bytes n p ≡ frame_bytes k p
frame_counts n k p same = rw same refl

some_byte : {A : Type 0} {x : A} {xs : List A} → ◌≡◌ {A = List A} [] (x ∷ xs) → ⊥
some_byte h = cc

-- packets with no byte of frames are none
pub no_frames : (k : ℕ) (ps : List (List ℕ)) → [] ≡ wire_from k ps → ps ≡ []
no_frames k [] e = refl
no_frames k (p ∷ ps) e = absurd (some_byte e)
