-- The rule by which the ends of an outlet share their channel.
use Rattle.std.specs.Prelude.{◌≡◌, ℕ, Bool, true, false, List, [], ◌∷◌, ◌++◌, map, Option, Some, None}
use mathlib.Core.Option.{some}
use lib.ListN.{get_elem?}
use Rattle.xcp_outlet.specs.declared.message.Message.{Message}
use Rattle.xcp_outlet.specs.PassKnowledge.{Half, PassKnown}
use Rattle.xcp_outlet.specs.ChannelRule.{of}

abbrev pub mark : Bool → List (Option (List ℕ))
mark true = None ∷ []
mark false = []

-- all that an end has put, where None is its end mark
abbrev pub sent : Half → List (Option (List ℕ))
sent h = map Some h.put ++ mark h.ended

-- one pass at most has this part of a view, and the fact holds of it
abbrev pub Owned : {X : Type 0} → (PassKnown → Option X) → List PassKnown → (X → Type 0) → Type 0
Owned {X} f views P = (seat : ℕ) × ((id : ℕ) (v : PassKnown) → get_elem? views id ≡ some v → (h : X) → f v ≡ Some h → (id ≡ seat) × P h)

pub record Routed (items : List Message) (views : List PassKnown) : Type 0 where
  pub got : List Message
  pub replies : Owned (λ v. v.reply) views (λ h. sent h ≡ of false (got ++ items))
  pub data_packets : Owned (λ v. v.daq) views (λ h. sent h ≡ of true (got ++ items))
  pub takes : Owned (λ v. v.taken) views (λ t. t ≡ got)

-- what the rule tells a pass that has an end's half and what was taken
abbrev pub Compares : PassKnown → List Message → Type 0
Compares v items = (t : List Message) → v.taken ≡ Some t
    → ((h : Half) → v.reply ≡ Some h → sent h ≡ of false (t ++ items))
    × ((h : Half) → v.daq ≡ Some h → sent h ≡ of true (t ++ items))
