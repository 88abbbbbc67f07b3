-- Steps, one behind another, of which there may be any number: what a loop without an end does.
use Rattle.std.specs.Prelude.{◌≡◌, List, [], ◌∷◌}

module _ {A : Type 0} (Step : A → A → Type 0) where
  -- One state leads to another by these states, each a step behind the one before it.
  abbrev pub Leads : A → List A → A → Type 0
  Leads from [] to = from ≡ to
  Leads from (x ∷ xs) to = Step from x × Leads x xs to

  -- One state leads to another by as many steps as there were.
  pub record Repeats (from to : A) : Type 0 where
    pub trail : List A
    pub leads : Leads from trail to
