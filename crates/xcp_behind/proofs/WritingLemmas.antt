-- Pieces behind pieces.
use Rattle.std.proofs.Common.{◌≡◌, ℕ, Bool, true, false, List, [], ◌∷◌, ◌++◌, ◌==◌, if◌then◌else◌, refl, ap, subst, sym, ◌∙◌, append_assoc, Option, Some, None}
use Rattle.std.proofs.lemmas.List.{append-nil, flat_map_more}
use Rattle.std.specs.Io.KnownBytes.{Appends}
use Rattle.relay.specs.Ends.{items_of}
use Rattle.xcp_framing.specs.Prefix.{AppendsFront}
use Rattle.xcp_behind.specs.Writing.{StopsInPiece, joined_pieces}

-- nothing was written
pub appends_nothing : (a : Option (List ℕ)) → Appends a a []
appends_nothing None = tt
appends_nothing (Some xs) = sym (append-nil xs)

-- bytes, and then more
appends_then : (a b c : Option (List ℕ)) (xs ys : List ℕ) → Appends a b xs → Appends b c ys → Appends a c (xs ++ ys)
appends_then None b c xs ys h k = tt
appends_then (Some u) None c xs ys h k = absurd h
appends_then (Some u) (Some v) None xs ys h k = absurd k
appends_then (Some u) (Some v) (Some w) xs ys h k = k ∙ ap (λ (z : List ℕ). z ++ ys) h ∙ append_assoc u xs ys

-- one piece more was taken, by the first tag
items_more : (taken : List (ℕ × List ℕ)) (piece : List ℕ) → items_of 0 (taken ++ (0, piece) ∷ []) ≡ items_of 0 taken ++ piece ∷ []
items_more [] piece = refl
items_more (x ∷ taken) piece = go (x.0 == 0) _ _ (items_more taken piece)
  where
    go : (b : Bool) (l m : List (List ℕ)) → l ≡ m ++ piece ∷ [] → (if b then x.1 ∷ l else l) ≡ (if b then x.1 ∷ m else m) ++ piece ∷ []
    go true l m e = ap (λ k. x.1 ∷ k) e
    go false l m e = e

-- a piece that was taken behind the others with tag 0 stands behind the pieces of this tag
pub taken_more : (taken taken' : List (ℕ × List ℕ)) (tag : ℕ) (piece : List ℕ) → tag ≡ 0 → taken' ≡ taken ++ (tag, piece) ∷ [] → items_of 0 taken' ≡ items_of 0 taken ++ piece ∷ []
taken_more taken taken' tag piece first more = ap (λ (t : List (ℕ × List ℕ)). items_of 0 t) (more ∙ ap (λ (n : ℕ). taken ++ (n, piece) ∷ []) first) ∙ items_more taken piece

-- and written whole
pub wrote_more : (before now after : Option (List ℕ)) (pieces pieces' : List (List ℕ)) (piece : List ℕ) → pieces' ≡ pieces ++ piece ∷ []
    → Appends before now (joined_pieces pieces) → Appends now after piece → Appends before after (joined_pieces pieces')
wrote_more before now after pieces pieces' piece more h k =
    subst (λ (z : List ℕ). Appends before after z) (flat_map_more (λ (p : List ℕ). p) [] pieces piece ∙ ap joined_pieces (sym more))
    (appends_then before now after (joined_pieces pieces) piece h k)

-- or not
pub wrote_front : (before now after : Option (List ℕ)) (pieces pieces' : List (List ℕ)) (piece : List ℕ) → pieces' ≡ pieces ++ piece ∷ []
    → Appends before now (joined_pieces pieces) → AppendsFront now after piece → StopsInPiece before after pieces'
wrote_front before now after pieces pieces' piece more h k = record { whole = pieces; last = piece; joined = more; between = now; grown = h; front = k }
