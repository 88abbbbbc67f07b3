-- What is known of a shelf after one call more.
use Rattle.std.proofs.Common.{◌≡◌, ◌≤◌, ℕ, suc, List, [], ◌∷◌, ◌++◌, length, map, true, false, refl, sym, ap, subst, ◌∙◌, arith, le_trans}
use Rattle.std.specs.Prelude.{Bool, not, nat_lt, if◌then◌else◌}
use Rattle.std.proofs.lemmas.Bool.Decides.{nat_tests}
use Rattle.xcp_memory.specs.Layout.{LayoutValue}
use Rattle.xcp_flash.specs.FlashFile.{file_size}
use Rattle.xcp_flash.specs.References.{AreReferences}
use Rattle.xcp_scribe.specs.ShelfCalls.{Asked, failures, last_failed}

-- a call that didn't fail is no failure
put_more : (asked : List Asked) (call : Asked) → call.put ≡ true → failures (asked ++ call ∷ []) ≡ failures asked
put_more [] call put = ap (λ (b : Bool). if b then 0 else 1) put
put_more (a ∷ asked) call put = ap (λ (n : ℕ). if a.put then n else suc n) (put_more asked call put)

-- one that failed is
failed_more : (asked : List Asked) (call : Asked) → call.put ≡ false → failures (asked ++ call ∷ []) ≡ suc (failures asked)
failed_more [] call failed = ap (λ (b : Bool). if b then 0 else 1) failed
failed_more (a ∷ asked) call failed = ap (λ (n : ℕ). if a.put then n else suc n) (failed_more asked call failed) ∙ out a.put (failures asked)
  where
    out : (b : Bool) (n : ℕ) → (if b then suc n else suc (suc n)) ≡ suc (if b then n else suc n)
    out true n = refl
    out false n = refl

last_more : (before : Bool) (asked : List Asked) (call : Asked) → last_failed before (asked ++ call ∷ []) ≡ not call.put
last_more before [] call = refl
last_more before (a ∷ asked) call = last_more (not a.put) asked call

-- what is told of a failure stays so
pub told_put : (old new : List Asked) (call : Asked) (failed : Bool) → new ≡ old ++ call ∷ [] → call.put ≡ true → failed ≡ nat_lt 0 (failures old) → failed ≡ nat_lt 0 (failures new)
told_put old new call failed is put told = told ∙ ap (λ (n : ℕ). nat_lt 0 n) (sym (put_more old call put) ∙ ap failures (sym is))

-- or is told now
pub told_failed : (old new : List Asked) (call : Asked) → new ≡ old ++ call ∷ [] → call.put ≡ false → true ≡ nat_lt 0 (failures new)
told_failed old new call is failed = some (failures old) ∙ ap (λ (n : ℕ). nat_lt 0 n) (sym (failed_more old call failed) ∙ ap failures (sym is))
  where
    some : (n : ℕ) → true ≡ nat_lt 0 (suc n)
    some n = grind (arith, nat_tests)

-- the last call is this one
pub behind_after : (old new : List Asked) (call : Asked) (behind : Bool) → new ≡ old ++ call ∷ [] → not call.put ≡ behind → behind ≡ last_failed false new
behind_after old new call behind is told = sym told ∙ sym (last_more false old call) ∙ ap (λ (asked : List Asked). last_failed false asked) (sym is)

-- pages of the same sizes need as much room
pub room_kept : (old new : List (List ℕ)) (l : LayoutValue) (had has : ℕ) → AreReferences old l → AreReferences new l → file_size (map (λ page. length page) old) ≤ had → had ≤ has → file_size (map (λ page. length page) new) ≤ has
room_kept old new l had has before after room more = subst (λ (sizes : List ℕ). file_size sizes ≤ has) (before ∙ sym after) (le_trans room more)
