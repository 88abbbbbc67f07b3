-- The rule of a relay: what it has taken of a giver's tag, and then what lies in it of this tag, is what that giver handed in.
use Rattle.std.specs.Prelude.{◌≡◌, ℕ, ◌<◌, ◌≤◌, true, false, List, [], ◌∷◌, ◌++◌}
use mathlib.Core.Option.{some}
use lib.ListN.{get_elem?}
use Rattle.relay.specs.Ends.{items_of}
use Rattle.relay.specs.declared.note.Note.{Note}

module _ {T : Type 0} where
  -- one pass may take, and knows what was taken and how many tags were given out
  abbrev pub FitsTaker : ℕ → ℕ → List (ℕ × T) → ℕ → Note T → Type 0
  FitsTaker taker tags taken pass v = v.takes ≡ true → (pass ≡ taker) × (v.taken ≡ taken) × (v.tags ≡ tags)

  -- one pass may give under each tag that was given out, and what went in under it is what it handed in
  abbrev pub FitsGiver : (ℕ → ℕ) → ℕ → List (ℕ × T) → ℕ → Note T → Type 0
  FitsGiver giver tags all pass v = v.gives ≡ true → (pass ≡ giver v.tag) × (v.tag < tags) × (items_of v.tag all ≡ v.given)

  -- taken and items together are all that went in; of a tag that wasn't given out nothing did
  abbrev pub Stands : ℕ → (ℕ → ℕ) → ℕ → List (ℕ × T) → List (ℕ × T) → List (Note T) → Type 0
  Stands taker giver tags taken all notes =
      ((tag : ℕ) → tags ≤ tag → items_of tag all ≡ [])
      × ((pass : ℕ) (v : Note T) → get_elem? notes pass ≡ some v → FitsTaker taker tags taken pass v × FitsGiver giver tags all pass v)

  abbrev pub Relays : List (ℕ × T) → List (Note T) → Type 0
  Relays items notes = (taker : ℕ) × (giver : ℕ → ℕ) × (tags : ℕ) × (taken : List (ℕ × T)) × Stands taker giver tags taken (taken ++ items) notes

  -- who may do nothing
  abbrev pub idle : Note T
  idle = record { takes = false; tags = 0; taken = []; gives = false; tag = 0; given = [] }

  -- who may take, after so many tags were given out
  abbrev pub taking : ℕ → List (ℕ × T) → Note T
  taking tags taken = record { takes = true; tags = tags; taken = taken; gives = false; tag = 0; given = [] }

  -- who may give under a tag
  abbrev pub giving : ℕ → List T → Note T
  giving tag given = record { takes = false; tags = 0; taken = []; gives = true; tag = tag; given = given }

  -- who may take, and give under a tag
  abbrev pub comparing : Note T → Note T → Note T
  comparing v w = record { takes = true; tags = v.tags; taken = v.taken; gives = true; tag = w.tag; given = w.given }

  -- an item was handed in
  abbrev pub gave : Note T → ℕ × T → Note T
  gave v x = giving v.tag (v.given ++ x.1 ∷ [])

  -- an item was taken
  abbrev pub took : Note T → ℕ × T → Note T
  took v x = taking v.tags (v.taken ++ x ∷ [])
