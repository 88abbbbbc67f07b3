-- Excerpts that are handed in as chapters are cut.
use Rattle.std.proofs.Common.{◌≡◌, Bool, true, false, List, [], ◌∷◌, ◌++◌, refl, sym, ap, ◌∙◌, subst, append_assoc, append-nil, true≢false}
use Rattle.std.proofs.lemmas.List.{map-append}
use Rattle.std.specs.Prelude.{Option, Some, None, MatchBool, MatchOption}
use Rattle.xcp_locked.specs.LockedSlave.{ChapterValue}
use Rattle.xcp_locked.specs.Excerpts.{ExcerptValue, HandingValue, KeepsPace, excerpt_of, excerpts_of}

-- the excerpts of one chapter more
one_more : (cs : List ChapterValue) (c : ChapterValue) → excerpts_of cs ++ excerpt_of c ∷ [] ≡ excerpts_of (cs ++ c ∷ [])
one_more cs c = sym (map-append excerpt_of cs (c ∷ []))

-- what handing an excerpt in says, where all before it were handed in
pub pace_handed : (result : Bool) (old new : Option HandingValue) (cs : List ChapterValue) (c : ChapterValue) → KeepsPace true old cs
    → MatchOption old (new ≡ None) (λ h. MatchBool result (new ≡ Some (record h { given = h.given ++ excerpt_of c ∷ [] })) (new ≡ Some h)) → KeepsPace result new (cs ++ c ∷ [])
pace_handed result None new cs c was did = subst (λ h. KeepsPace result h (cs ++ c ∷ [])) (sym did) tt
pace_handed true (Some h) new cs c was did =
    let all : h.given ++ excerpt_of c ∷ [] ≡ excerpts_of (cs ++ c ∷ []) = ap (λ es. es ++ excerpt_of c ∷ []) (was.all refl) ∙ one_more cs c in
    subst (λ z. KeepsPace true z (cs ++ c ∷ [])) (sym did) (record { first = ([], append-nil (h.given ++ excerpt_of c ∷ []) ∙ all); all = λ _. all })
pace_handed false (Some h) new cs c was did =
    let all : h.given ++ excerpt_of c ∷ [] ≡ excerpts_of (cs ++ c ∷ []) = ap (λ es. es ++ excerpt_of c ∷ []) (was.all refl) ∙ one_more cs c in
    subst (λ z. KeepsPace false z (cs ++ c ∷ [])) (sym did) (record { first = (excerpt_of c ∷ [], all); all = λ e. absurd (true≢false (sym e)) })

-- an excerpt that isn't handed in stands behind those that were
pub pace_behind : (whole : Bool) (handing : Option HandingValue) (cs : List ChapterValue) (c : ChapterValue) → KeepsPace whole handing cs → KeepsPace false handing (cs ++ c ∷ [])
pace_behind whole None cs c was = tt
pace_behind whole (Some h) cs c was = record {
  first = (
    was.first.0 ++ excerpt_of c ∷ [],
    sym (append_assoc h.given was.first.0 (excerpt_of c ∷ [])) ∙ (ap (λ (es : List ExcerptValue). es ++ excerpt_of c ∷ []) was.first.1 ∙ one_more cs c),
  );
  all = λ e. absurd (true≢false (sym e));
}
