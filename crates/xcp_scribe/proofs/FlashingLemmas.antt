-- Stored pages, as one chapter more is given.
use Rattle.std.proofs.Common.{◌≡◌, ◌≤◌, ◌⊎◌, inl, inr, ℕ, Bool, List, [], ◌∷◌, ◌++◌, length, map, true≢false, refl, sym, ap, subst, ◌∙◌}
use Rattle.std.specs.Prelude.{◌≢◌, false, nat_lt, vec_capacity}
use Rattle.std.specs.List.{AllByRecursion}
use Rattle.xcp_memory.specs.Layout.{LayoutValue}
use Rattle.xcp_slave.specs.SlaveValue.{layout_of}
use Rattle.xcp_flash.specs.FlashFile.{file_of, file_size}
use Rattle.xcp_flash.specs.References.{AreReferences, kept_pages}
use Rattle.xcp_scribe.specs.Given.{Given}
use Rattle.xcp_scribe.specs.Flashing.{AsksFor, HasKept, IsDue, Keeps, KeepsFile, last_kept}
use Rattle.xcp_scribe.specs.ShelfCalls.{Asked, failures, last_failed}
use Rattle.xcp_scribe.specs.Standing.{is_behind}
use Rattle.xcp_scribe.proofs.AskLemmas.{asks_no_more, asks_once_more}
use Rattle.xcp_scribe.specs.declared.standing.Flashing.{Flashing}
use Rattle.xcp_scribe.specs.declared.standing.Standing.{Standing}
use Rattle.xcp_scribe.specs.declared.standing.Standing.TheVariants.{Untouched, Current, Behind}

-- of all, the first ones and the last one
all_front : {X : Type 0} (P : X → Type 0) (xs : List X) (y : X) → AllByRecursion P (xs ++ y ∷ []) → AllByRecursion P xs
all_front P [] y h = tt
all_front P (x ∷ xs) y h = (h.0, all_front P xs y h.1)

all_back : {X : Type 0} (P : X → Type 0) (xs : List X) (y : X) → AllByRecursion P (xs ++ y ∷ []) → P y
all_back P [] y h = h.0
all_back P (x ∷ xs) y h = all_back P xs y h.1

all_more : {X : Type 0} (P : X → Type 0) (xs : List X) (y : X) → AllByRecursion P xs → P y → AllByRecursion P (xs ++ y ∷ [])
all_more P [] y h p = (p, tt)
all_more P (x ∷ xs) y h p = (h.0, all_more P xs y h.1 p)

-- the last pages are those of the chapter that came
last_more : (pages : List (List ℕ)) (given : List Given) (g : Given) → last_kept pages (given ++ g ∷ []) ≡ kept_pages g.last
last_more pages [] g = refl
last_more pages (x ∷ given) g = last_more (kept_pages x.last) given g

-- where none are others, the last ones aren't
last_untouched : (pages : List (List ℕ)) (given : List Given) → AllByRecursion (λ (g : Given). kept_pages g.last ≡ pages) given → last_kept pages given ≡ pages
last_untouched pages [] h = refl
last_untouched pages (x ∷ given) h =
    ap (λ (p : List (List ℕ)). last_kept p given) h.0 ∙ last_untouched pages given h.1

-- pages of the same sizes are those of the same layouts
same_sizes : (pages more : List (List ℕ)) (l : LayoutValue) → map (λ (page : List ℕ). length page) pages ≡ map (λ (page : List ℕ). length page) more → AreReferences more l → AreReferences pages l
same_sizes pages more l e fit = e ∙ fit

both_sizes : (pages more : List (List ℕ)) (l : LayoutValue) → AreReferences pages l → AreReferences more l → map (λ (page : List ℕ). length page) pages ≡ map (λ (page : List ℕ). length page) more
both_sizes pages more l a b = a ∙ sym b

-- a slave of other sizes doesn't come
pub kept_unfit : {F : Type 0} (holds : F → List ℕ → Type 0) (f : Flashing F) (given : List Given) (g : Given) → HasKept holds f given → (AreReferences f.pages (layout_of g.last) → ⊥) → HasKept holds f (given ++ g ∷ [])
kept_unfit holds f given g was unfit = λ all.
    let k = was (all_front _ given g all) in
    absurd (unfit (same_sizes f.pages f.start.value (layout_of g.last) k.sized (all_back _ given g all)))

-- none is due
not_due : (pages start more : List (List ℕ)) (failed : Bool) (standing : Standing) (g : Given) → pages ≡ more → pages ≡ kept_pages g.last → is_behind standing ≡ failed → (standing ≡ Behind → ⊥) → IsDue more failed g → ⊥
not_due pages start more failed standing g was same told not (inl other) = other (sym same ∙ was)
not_due pages start more failed Untouched g was same told not (inr due) = true≢false (sym due ∙ sym told)
not_due pages start more failed Current g was same told not (inr due) = true≢false (sym due ∙ sym told)
not_due pages start more failed Behind g was same told not (inr due) = not refl

-- the same pages again, where the file isn't behind
pub kept_same : {F : Type 0} (holds : F → List ℕ → Type 0) (f : Flashing F) (p : List (List ℕ)) (room : file_size (map (λ page. length page) p) ≤ vec_capacity f.file) (told : f.failed ≡ nat_lt 0 (failures f.shelf.asked)) (behind : is_behind f.standing ≡ last_failed false f.shelf.asked) (given : List Given) (g : Given) → HasKept holds f given → p ≡ kept_pages g.last → AreReferences p (layout_of g.last) → f.pages ≡ kept_pages g.last → (f.standing ≡ Behind → ⊥)
    → HasKept holds (record f { pages = p; room = room; told = told; behind = behind }) (given ++ g ∷ [])
kept_same {F} holds f p room told behind given g was is fit same not = λ all.
    let k = was (all_front _ given g all) in
    record {
      pages = is ∙ sym (last_more f.start.value given g);
      sized = both_sizes p f.start.value (layout_of g.last) fit (all_back _ given g all);
      stands = stands_on k f.standing refl k.stands;
      asks = asks_no_more f.layout f.start.value false given f.shelf.asked g k.asks (not_due f.pages f.start.value (last_kept f.start.value given) (last_failed false f.shelf.asked) f.standing g k.pages same f.behind not);
    }
  where
    stands_on : Keeps holds f given → (s : Standing) → f.standing ≡ s → KeepsFile holds s f given → KeepsFile holds s (record f { pages = p; room = room; told = told; behind = behind }) (given ++ g ∷ [])
    stands_on k Untouched e h = (all_more (λ (x : Given). kept_pages x.last ≡ f.start.value) given g h.0 (sym same ∙ k.pages ∙ last_untouched f.start.value given h.0), h.1)
    stands_on k Current e h = subst (λ (q : List (List ℕ)). holds f.shelf.inner (file_of f.layout q)) (same ∙ sym is) h
    stands_on k Behind e h = absurd (not e)

-- The shelf was asked, and had to be: the pages are others, or the file was behind.
module _ {F : Type 0} (holds : F → List ℕ → Type 0) (old f : Flashing F) (given : List Given) (g : Given) (call : Asked) (was : HasKept holds old given) (start : f.start.value ≡ old.start.value) (layout : f.layout ≡ old.layout) where
  is_due : Keeps holds old given → (kept_pages g.last ≢ old.pages) ⊎ (old.standing ≡ Behind) → IsDue (last_kept old.start.value given) (last_failed false old.shelf.asked) g
  is_due k (inl other) = inl (λ e. other (e ∙ sym k.pages))
  is_due k (inr behind) = inr (sym old.behind ∙ ap is_behind behind)

  pub kept_asked : f.pages ≡ kept_pages g.last → AreReferences f.pages (layout_of g.last) → f.shelf.asked ≡ old.shelf.asked ++ call ∷ [] → call.file ≡ file_of f.layout f.pages → (kept_pages g.last ≢ old.pages) ⊎ (old.standing ≡ Behind)
      → KeepsFile holds f.standing f (given ++ g ∷ []) → HasKept holds f (given ++ g ∷ [])
  kept_asked is fit asked file due stands = λ all.
      let k = was (subst (λ (s : List (List ℕ)). AllByRecursion (λ (x : Given). AreReferences s (layout_of x.last)) given) start (all_front _ given g all)) in
      let calls = asks_once_more old.layout old.start.value false given old.shelf.asked g call k.asks (is_due k due) (file ∙ ap (λ (l : List ℕ). file_of l f.pages) layout ∙ ap (λ (p : List (List ℕ)). file_of old.layout p) is) in
      record {
        pages = is ∙ sym (last_more f.start.value given g);
        sized = both_sizes f.pages f.start.value (layout_of g.last) fit (all_back _ given g all);
        stands = stands;
        asks = subst (λ (s : List (List ℕ)). AsksFor f.layout s false (given ++ g ∷ []) f.shelf.asked) (sym start)
            (subst (λ (l : List ℕ). AsksFor l old.start.value false (given ++ g ∷ []) f.shelf.asked) (sym layout)
            (subst (λ (all : List Asked). AsksFor old.layout old.start.value false (given ++ g ∷ []) all) (sym asked) calls));
      }
