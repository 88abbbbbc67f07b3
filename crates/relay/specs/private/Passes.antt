-- The passes of the ends.
use Rattle.std.specs.Prelude.{◌≡◌, ℕ, true, false, Option, None}
use Rattle.std.specs.declared.alloc.Global.{Global}
use Rattle.atomic_blocks.specs.declared.web.Seat.{Seat}
use Rattle.crossbeam_queue.specs.declared.seg_queue.Going.{Going}
use Rattle.relay.specs.Ends.{RelayId}
use Rattle.relay.specs.declared.note.Note.{Note}

abbrev pub Pass : Type 0 → Type 0
Pass T = Seat (Option (ℕ × T)) (Going (ℕ × T) (Note T)) Global

module _ {T : Type 0} where
  -- what it knows
  abbrev pub note_of : Pass T → Note T
  note_of pass = pass.me.view.client

  abbrev pub relay_of : Pass T → RelayId
  relay_of pass = record { queue = record { web = pass.web; heap = pass.heap } }

  -- nothing of the queue is out with it
  abbrev pub IsAtRest : Pass T → Type 0
  IsAtRest pass = (pass.me.hand ≡ None) × (pass.me.spare ≡ None)

  -- it may give under this tag, and not take
  abbrev pub IsGivers : ℕ → Pass T → Type 0
  IsGivers tag pass = IsAtRest pass × ((note_of pass).gives ≡ true) × ((note_of pass).takes ≡ false) × ((note_of pass).tag ≡ tag)

  -- it may take, and not give, and so many tags were given out
  abbrev pub IsTakers : ℕ → Pass T → Type 0
  IsTakers tags pass = IsAtRest pass × ((note_of pass).takes ≡ true) × ((note_of pass).gives ≡ false) × ((note_of pass).tags ≡ tags)
