-- The calls of a shelf, as one chapter more is given.
use Rattle.std.proofs.Common.{◌≡◌, ℕ, List, [], ◌∷◌, ◌++◌, inl, inr, refl, ap, subst}
use Rattle.std.specs.Prelude.{Bool, not}
use Rattle.xcp_flash.specs.FlashFile.{file_of}
use Rattle.xcp_flash.specs.References.{kept_pages}
use Rattle.xcp_scribe.specs.Flashing.{AsksFor, IsDue, last_kept}
use Rattle.xcp_scribe.specs.Given.{Given}
use Rattle.xcp_scribe.specs.ShelfCalls.{Asked, last_failed}

-- where none was due, none comes
pub asks_no_more : (layout : List ℕ) (pages : List (List ℕ)) (failed : Bool) (given : List Given) (asked : List Asked) (g : Given)
    → AsksFor layout pages failed given asked → (IsDue (last_kept pages given) (last_failed failed asked) g → ⊥) → AsksFor layout pages failed (given ++ g ∷ []) asked
asks_no_more layout pages failed [] asked g none not_due = inl (subst (λ (all : List Asked). IsDue pages (last_failed failed all) g → ⊥) none not_due, none)
asks_no_more layout pages failed (x ∷ given) asked g (inl h) not_due = inl (h.0, asks_no_more layout (kept_pages x.last) failed given asked g h.1 not_due)
asks_no_more layout pages failed (x ∷ given) asked g (inr h) not_due =
    let call = h.1.0 in
    let more = h.1.1 in
    let is = h.1.2 in
    inr (
      h.0,
      (
        call,
        more,
        is,
        h.1.3,
        asks_no_more layout (kept_pages x.last) (not call.put) given more g h.1.4 (subst (λ (all : List Asked). IsDue (last_kept (kept_pages x.last) given) (last_failed failed all) g → ⊥) is not_due),
      ),
    )

-- where one was due, it comes
pub asks_once_more : (layout : List ℕ) (pages : List (List ℕ)) (failed : Bool) (given : List Given) (asked : List Asked) (g : Given) (call : Asked)
    → AsksFor layout pages failed given asked → IsDue (last_kept pages given) (last_failed failed asked) g → call.file ≡ file_of layout (kept_pages g.last)
    → AsksFor layout pages failed (given ++ g ∷ []) (asked ++ call ∷ [])
asks_once_more layout pages failed [] asked g call none due file =
    inr (subst (λ (all : List Asked). IsDue pages (last_failed failed all) g) none due, (call, [], ap (λ (all : List Asked). all ++ call ∷ []) none, file, refl))
asks_once_more layout pages failed (x ∷ given) asked g call (inl h) due file = inl (h.0, asks_once_more layout (kept_pages x.last) failed given asked g call h.1 due file)
asks_once_more layout pages failed (x ∷ given) asked g call (inr h) due file =
    let first = h.1.0 in
    let more = h.1.1 in
    let is = h.1.2 in
    inr (
      h.0,
      (
        first,
        more ++ call ∷ [],
        ap (λ (all : List Asked). all ++ call ∷ []) is,
        h.1.3,
        asks_once_more layout (kept_pages x.last) (not first.put) given more g call h.1.4 (subst (λ (all : List Asked). IsDue (last_kept (kept_pages x.last) given) (last_failed failed all) g) is due) file,
      ),
    )
