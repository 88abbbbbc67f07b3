-- Words with a place put in, and lines of such words.
use Rattle.std.proofs.Common.{◌≡◌, ℕ, List, [], ◌∷◌, ◌++◌, codes, flat_map, append_assoc, sym, ap, ◌∙◌, refl, inl, inr, subst}
use Rattle.std.specs.Str.Iter.{LacksByte}
use Rattle.std.proofs.lemmas.List.Elements.{All-nil, All-cons}
use Rattle.xcp_telling.specs.Locating.{AreLocated, IsLocated, IsPlace, ended_lines}

-- they may stay as they are
pub stays : (words told : List ℕ) → told ≡ words → IsLocated words told
stays words told same = inl same

-- or have it between two parts
pub is_put_in : (words told front place rest : List ℕ) → IsPlace place → words ≡ front ++ (codes ": " ++ rest) → told ≡ front ++ (place ++ (codes ": " ++ rest)) → IsLocated words told
is_put_in words told front place rest is parted put = inr (front, place, rest, is, parted, put)

-- and so they may behind a head
pub behind_head : (head line words told shown : List ℕ) → line ≡ head ++ (codes ": " ++ words) → shown ≡ head ++ (codes ": " ++ told) → IsLocated words told → IsLocated line shown
behind_head head line words told shown parted put (inl same) = inl (put ∙ ap (λ ws. head ++ (codes ": " ++ ws)) same ∙ sym parted)
behind_head head line words told shown parted put (inr (front, place, rest, is, cut, with)) =
    let first : List ℕ = head ++ (codes ": " ++ front) in
    let moved : (more : List ℕ) → head ++ (codes ": " ++ (front ++ more)) ≡ first ++ more = λ more. sym (append_assoc head (codes ": " ++ front) more) in
    inr (
      first,
      place,
      rest,
      is,
      parted ∙ ap (λ ws. head ++ (codes ": " ++ ws)) cut ∙ moved (codes ": " ++ rest),
      put ∙ ap (λ ws. head ++ (codes ": " ++ ws)) with ∙ moved (place ++ (codes ": " ++ rest)),
    )

-- a text without lines is told as it is
pub is_rest : (text : List ℕ) → AreLocated text text
is_rest text = record { lines = []; others = []; rest = text; apart = All-nil (LacksByte 10); each = tt; cut = refl; joined = refl }

-- a line before others
one_more : (rest line more words told : List ℕ) → rest ≡ line ++ (10 ∷ more) → LacksByte 10 line → IsLocated line words → AreLocated more told → AreLocated rest (words ++ (10 ∷ told))
one_more rest line more words told cut lacks is h = record {
  lines = line ∷ h.lines;
  others = words ∷ h.others;
  rest = h.rest;
  apart = All-cons (LacksByte 10) line h.lines lacks h.apart;
  each = (is, h.each);
  cut = cut ∙ ap (λ ms. line ++ (10 ∷ ms)) h.cut ∙ sym (append_assoc line (10 ∷ []) (flat_map ended_lines h.lines ++ h.rest)) ∙ sym (append_assoc (ended_lines line) (flat_map ended_lines h.lines) h.rest);
  joined = ap (λ ms. words ++ (10 ∷ ms)) h.joined ∙ sym (append_assoc words (10 ∷ []) (flat_map ended_lines h.others ++ h.rest)) ∙ sym (append_assoc (ended_lines words) (flat_map ended_lines h.others) h.rest);
}

-- what is told of these lines, if this is told of what is left of them
abbrev pub Continues : List ℕ → List ℕ → List ℕ → Type 0
Continues lines rest before = (told : List ℕ) → AreLocated rest told → AreLocated lines (before ++ told)

-- one more line of them is told
pub go_on : (lines rest line more before after : List ℕ) → Continues lines rest before → rest ≡ line ++ (10 ∷ more) → LacksByte 10 line
    → (words : List ℕ) × IsLocated line words × (after ≡ before ++ ended_lines words) → Continues lines more after
go_on lines rest line more before after goes cut lacks (words, is, put) = λ told h.
    let whole : after ++ told ≡ before ++ (words ++ (10 ∷ told)) =
    ap (λ ws. ws ++ told) put ∙ append_assoc before (words ++ (10 ∷ [])) told ∙ ap (λ ws. before ++ ws) (append_assoc words (10 ∷ []) told) in
    subst (AreLocated lines) (sym whole) (goes (words ++ (10 ∷ told)) (one_more rest line more words told cut lacks is h))
