-- The rule of the outlet: what each end has put is what was taken of it, and then what the channel holds of it.
use Rattle.std.specs.Prelude.{ℕ, Bool, true, false, List, [], ◌∷◌, ◌++◌, map, Option, Some, None}
use Rattle.xcp_outlet.specs.declared.message.Message.{Message}

-- what is in a message: the packets of its batch, or the end mark, which is None
abbrev pub message_parts : Option (List (List ℕ)) → List (Option (List ℕ))
message_parts None = None ∷ []
message_parts (Some ps) = map Some ps

abbrev pub keep : Bool → Bool → List (Option (List ℕ)) → List (Option (List ℕ)) → List (Option (List ℕ))
keep true true ps rest = ps ++ rest
keep true false ps rest = rest
keep false true ps rest = rest
keep false false ps rest = ps ++ rest

-- what there is of one side in the messages, in order
abbrev pub of : Bool → List Message → List (Option (List ℕ))
of side [] = []
of side (m ∷ ms) = keep side m.from_data (message_parts m.batch) (of side ms)
