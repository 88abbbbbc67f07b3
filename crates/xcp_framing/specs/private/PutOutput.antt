-- Packets that are gathered in a batch before they are put.
use Rattle.std.specs.Prelude.{◌≡◌, List, [], ◌++◌, ℕ, Result, Err, ⊤}
use Rattle.xcp_framing.specs.declared.serving.ServeError.{ServeError}
use Rattle.xcp_framing.specs.declared.serving.ServeError.TheVariants as errors
use Rattle.xcp_framing.specs.ServeBy.{IsHandedBack}

-- Packets came behind those that were held: of all these the first were put, and the others are held.
pub record Moves (put held put' held' more : List (List ℕ)) : Type 0 where
  pub moved : List (List ℕ)
  pub grown : put' ≡ put ++ moved
  pub rest : moved ++ held' ≡ held ++ more

-- a batch was handed back, or there was no memory for one
abbrev pub IsLeftUnput : ServeError → Type 0
IsLeftUnput errors.Write = ⊤
IsLeftUnput errors.NoRoom = ⊤
IsLeftUnput _ = ⊥

-- The same, unless a batch was handed back, or had no memory: then only a front of them was put, and nothing is held.
abbrev pub MovesSoFar : {A : Type 0} → Result A ServeError → List (List ℕ) → List (List ℕ) → List (List ℕ) → List (List ℕ) → List (List ℕ) → Type 0
MovesSoFar (Err errors.Write) put held put' held' more = IsHandedBack (held ++ more) put put' × (held' ≡ [])
MovesSoFar (Err errors.NoRoom) put held put' held' more = IsHandedBack (held ++ more) put put' × (held' ≡ [])
MovesSoFar _ put held put' held' more = Moves put held put' held' more
