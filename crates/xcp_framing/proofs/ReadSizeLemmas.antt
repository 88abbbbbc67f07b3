-- Of how many bytes the reads between two values of a reader were.
use Rattle.std.proofs.Common.{◌≡◌, ℕ, List, [], ◌∷◌, ◌++◌, sym, ap, ◌∙◌, append-nil, append_assoc}
use Rattle.std.proofs.lemmas.List.Elements.{All-nil, All-push}
use Rattle.xcp_framing.specs.CountedCalls.{Watched, EachRead}

-- there was none
pub no_read : {R : Type 0} (Size : ℕ → Type 0) (w : Watched R) → EachRead Size w w
no_read Size w = record {
  sizes = [];
  reads = sym (append-nil w.asked);
  each = All-nil Size;
}

-- there was one more
pub one_read_more : {R : Type 0} (Size : ℕ → Type 0) (old now new : Watched R) (n : ℕ) → EachRead Size old now → new.asked ≡ now.asked ++ n ∷ [] → Size n → EachRead Size old new
one_read_more Size old now new n h more is = record {
  sizes = h.sizes ++ n ∷ [];
  reads = more ∙ ap (λ (l : List ℕ). l ++ n ∷ []) h.reads ∙ append_assoc old.asked h.sizes (n ∷ []);
  each = All-push Size h.sizes n h.each is;
}
