-- What a contract sees of a watched shelf.
use Rattle.std.specs.Prelude.{ℕ, suc, Bool, List, [], ◌∷◌, not, if◌then◌else◌, refl}
use Rattle.std.specs.Coded.{Coded, code_by, coded×, coded_ℕ, coded_bool, coded_list}

-- one call: the content that the file was to get, and whether it did
pub record Asked : Type 0 where
  pub file : List ℕ
  pub put : Bool

-- the shelf, and its calls, in order
pub record Shelved (F : Type 0) : Type 0 where
  pub inner : F
  pub asked : List Asked

-- how many of these calls failed
abbrev pub failures : List Asked → ℕ
failures [] = 0
failures (a ∷ asked) = if a.put then failures asked else suc (failures asked)

-- whether the last of these calls failed, and where there is none, what is said of before
abbrev pub last_failed : Bool → List Asked → Bool
last_failed before [] = before
last_failed before (a ∷ asked) = last_failed (not a.put) asked

-- a call is stored as these two
abbrev pub asked_code : Coded Asked
asked_code =
    code_by (List ℕ × Bool) (coded× (coded_list coded_ℕ) coded_bool) (λ a. (a.file, a.put)) (λ p. record { file = p.0; put = p.1 }) (λ _. refl)

-- and so is a watched shelf
abbrev pub shelved_code : {F : Type 0} → Coded F → Coded (Shelved F)
shelved_code {F} code =
    code_by (F × List Asked) (coded× code (coded_list asked_code)) (λ s. (s.inner, s.asked)) (λ p. record { inner = p.0; asked = p.1 }) (λ _. refl)
