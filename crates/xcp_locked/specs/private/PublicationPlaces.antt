-- The places of publications.
use Rattle.std.specs.Prelude.{ℕ, List, map}
use Rattle.xcp_locked.specs.Publications.{Publication}

abbrev pub places_of : List Publication → List ℕ
places_of list = map (λ (p : Publication). p.place) list
