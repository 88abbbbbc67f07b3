-- What stands in the file of stored pages, and when its shelf is asked for it.
use Rattle.std.specs.Prelude.{◌≡◌, ◌≢◌, ◌⊎◌, ⊤, ℕ, Bool, List, [], ◌∷◌, length, map, not, Option, MatchOption, true, false}
use Rattle.std.specs.List.{AllByRecursion}
use Rattle.xcp_slave.specs.SlaveValue.{layout_of}
use Rattle.xcp_flash.specs.FlashFile.{file_of}
use Rattle.xcp_flash.specs.References.{AreReferences, kept_pages}
use Rattle.xcp_scribe.specs.Given.{Given}
use Rattle.xcp_scribe.specs.ShelfCalls.{Asked}
use Rattle.xcp_scribe.specs.declared.standing.Flashing.{Flashing}
use Rattle.xcp_scribe.specs.declared.standing.Standing.{Standing}
use Rattle.xcp_scribe.specs.declared.standing.Standing.TheVariants as standings

-- the pages that are kept of the last of these chapters' end; where there is none, these
abbrev pub last_kept : List (List ℕ) → List Given → List (List ℕ)
last_kept pages [] = pages
last_kept pages (g ∷ given) = last_kept (kept_pages g.last) given

-- The shelf has to be asked at the end of this chapter: other pages are kept of it than these, those of the end of the one before, or the
-- last call failed.
abbrev pub IsDue : List (List ℕ) → Bool → Given → Type 0
IsDue pages failed g = (kept_pages g.last ≢ pages) ⊎ (failed ≡ true)

-- The calls of the shelf while these chapters came: one at the end of each where it had to be asked, for the file of the pages that are
-- kept of that end, and no other.
abbrev pub AsksFor : List ℕ → List (List ℕ) → Bool → List Given → List Asked → Type 0
AsksFor layout pages failed [] asked = asked ≡ []
AsksFor layout pages failed (g ∷ given) asked =
    ((IsDue pages failed g → ⊥) × AsksFor layout (kept_pages g.last) failed given asked)
    ⊎ (IsDue pages failed g × ((call : Asked) × (more : List Asked) × (asked ≡ call ∷ more) × (call.file ≡ file_of layout (kept_pages g.last))
    × AsksFor layout (kept_pages g.last) (not call.put) given more))

-- What is true of the file by its standing. Untouched: no other pages are kept of any chapter's end than those of the beginning, and
-- the shelf was asked for nothing. Current: it has those of the last chapter's end. Behind: the last write failed, which is told.
abbrev pub KeepsFile : {F : Type 0} → (F → List ℕ → Type 0) → Standing → Flashing F → List Given → Type 0
KeepsFile holds standings.Untouched f given = AllByRecursion (λ (g : Given). kept_pages g.last ≡ f.start.value) given × (f.shelf.asked ≡ [])
KeepsFile holds standings.Current f given = holds f.shelf.inner (file_of f.layout f.pages)
KeepsFile holds standings.Behind f given = f.failed ≡ true

-- The scribe has the pages that are kept of the last chapter's end, which are of the sizes of those of the beginning, and so has its file,
-- by its standing; and the shelf was asked for what it had to be.
pub record Keeps {F : Type 0} (holds : F → List ℕ → Type 0) (f : Flashing F) (given : List Given) : Type 0 where
  pub pages : f.pages ≡ last_kept f.start.value given
  pub sized : map (λ page. length page) f.pages ≡ map (λ page. length page) f.start.value
  pub stands : KeepsFile holds f.standing f given
  pub asks : AsksFor f.layout f.start.value false given f.shelf.asked

-- the same, where all these chapters are of slaves whose reference pages have the sizes of those of the beginning
abbrev pub HasKept : {F : Type 0} → (F → List ℕ → Type 0) → Flashing F → List Given → Type 0
HasKept holds f given = AllByRecursion (λ (g : Given). AreReferences f.start.value (layout_of g.last)) given → Keeps holds f given

-- what keeps stored pages, if there is one, in a file that contracts don't see, before any chapter
abbrev pub KeepsNone : {F : Type 0} → Option (Flashing F) → Type 0
KeepsNone kept = MatchOption kept ⊤ (λ f. HasKept (λ _ _. ⊤) f [])

-- What tools asked to have stored, up to the last of these chapters' end, lies on the shelf: its file has the pages that are kept of that end;
-- or no other pages are kept of any chapter's end than those with which the slave began.
abbrev pub IsShelved : {F : Type 0} → (F → List ℕ → Type 0) → Flashing F → List Given → Type 0
IsShelved holds f given =
    AllByRecursion (λ (g : Given). AreReferences f.start.value (layout_of g.last)) given
    → AllByRecursion (λ (g : Given). kept_pages g.last ≡ f.start.value) given ⊎ holds f.shelf.inner (file_of f.layout (last_kept f.start.value given))
