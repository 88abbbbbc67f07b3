-- What stands in a stream to which a thread writes.
use Rattle.std.specs.Prelude.{◌≡◌, ℕ, Bool, true, false, List, [], ◌∷◌, ◌++◌, Option}
use Rattle.std.specs.List.{flat_map}
use Rattle.std.specs.Io.KnownBytes.{Appends}
use Rattle.relay.specs.Ends.{RelayId}
use Rattle.xcp_framing.specs.Prefix.{AppendsFront}

-- The end that writes: its relay, the pieces that it took, in order, whether a write failed, and what its stream holds, where that is known:
-- at first, and now.
pub record WriteEndValue : Type 0 where
  pub relay : RelayId
  pub taken : List (List ℕ)
  pub failed : Bool
  pub before : Option (List ℕ)
  pub after : Option (List ℕ)

-- the bytes of pieces, one behind another
abbrev pub joined_pieces : List (List ℕ) → List ℕ
joined_pieces pieces = flat_map (λ (piece : List ℕ). piece) pieces

-- All of these pieces but the last stand there, in order, each once and whole, and of the last a prefix.
pub record StopsInPiece (before after : Option (List ℕ)) (pieces : List (List ℕ)) : Type 0 where
  pub whole : List (List ℕ)
  pub last : List ℕ
  pub joined : pieces ≡ whole ++ last ∷ []
  pub between : Option (List ℕ)
  pub grown : Appends before between (joined_pieces whole)
  pub front : AppendsFront between after last

-- These pieces stand there, in order, each once and whole, and nothing else; or a write of the last one failed.
abbrev pub HoldsPieces : Bool → Option (List ℕ) → Option (List ℕ) → List (List ℕ) → Type 0
HoldsPieces false before after pieces = Appends before after (joined_pieces pieces)
HoldsPieces true before after pieces = StopsInPiece before after pieces
