-- The ends of an outlet, as contracts see them.
use Rattle.std.specs.Prelude.{ℕ, Bool, true, false, List, [], ◌∷◌, ◌++◌, Option, Some, None}
use Rattle.atomic_table.specs.Seated.{TableId}
use Rattle.atomic_table.specs.declared.badge.Badge.{Badge}
use Rattle.crossbeam_channel.specs.declared.flavors.array.Key.{Key}
use Rattle.crossbeam_channel.specs.Claims.{Pass, view}
use Rattle.xcp_outlet.specs.declared.message.Message.{Message}
use Rattle.xcp_outlet.specs.PassKnowledge.{Half, PassKnown, half, half_of}

-- what a pass knows
abbrev pub knows : Pass Message PassKnown → PassKnown
knows p = view p

-- which outlet it is
abbrev pub Outlet : Type 0
Outlet = TableId × Badge (Key Message)

-- for who has to name some outlet before there is one: no outlet is this
abbrev pub no_outlet : Outlet
no_outlet =
    let table : TableId = record { words = 0; slots = 0; views_name = 0; atom = 0; block = 0; offset = 0; slot_names = [] } in
    (table, record { marker = record {}; table_id = table; id = 0; views = [] })

abbrev pub outlet_of : Pass Message PassKnown → Outlet
outlet_of p = (p.table_id, p.me.0.of)

pub record EndSeen : Type 0 where
  pub outlet : Outlet
  pub side : Bool
  pub put : List (List ℕ)

pub record Putting : Type 0 where
  pub outlet : Outlet
  pub side : Bool
  pub put : List (List ℕ)
  pub ended : Bool

abbrev pub some_half : Option Half → Half
some_half None = half [] false
some_half (Some h) = h

abbrev pub some_list : Option (List Message) → List Message
some_list None = []
some_list (Some t) = t

abbrev pub putting_of : Bool → Bool → Pass Message PassKnown → Putting
putting_of side ended p = record { outlet = outlet_of p; side = side; put = (some_half (half_of side (knows p))).put; ended = ended }

-- what was taken, and what is known of either end
pub record Taking : Type 0 where
  pub outlet : Outlet
  pub taken : List Message

abbrev pub taking_of : Pass Message PassKnown → Taking
taking_of p = record { outlet = outlet_of p; taken = some_list (knows p).taken }

-- the packets of one side in the messages
abbrev pub packets : List (Option (List ℕ)) → List (List ℕ)
packets [] = []
packets (None ∷ ms) = packets ms
packets (Some p ∷ ms) = p ∷ packets ms

abbrev pub has_mark : List (Option (List ℕ)) → Bool
has_mark [] = false
has_mark (None ∷ ms) = true
has_mark (Some p ∷ ms) = has_mark ms

abbrev pub packet_list : Option (List (List ℕ)) → List (List ℕ)
packet_list None = []
packet_list (Some ps) = ps

-- the packets of both sides, in the order in which they were taken
abbrev pub all_packets : List Message → List (List ℕ)
all_packets [] = []
all_packets (m ∷ ms) = packet_list m.batch ++ all_packets ms
