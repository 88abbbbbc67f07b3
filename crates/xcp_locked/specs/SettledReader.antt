-- What a reader that is settled holds.
use Rattle.std.specs.Prelude.{◌≡◌, ℕ, ◌+◌, ◌<◌, List, ◌∷◌, Some}
use Rattle.std.specs.List.{slice_get}
use Rattle.xcp_bank.specs.BankEnds.{ReaderEnd, HoldsNumber, image_held}
use Rattle.xcp_slave.specs.declared.Exchange.{Exchange}
use Rattle.xcp_slave.specs.SlaveValue.{SlaveValue}
use Rattle.xcp_locked.specs.declared.telling.HeldPublication.{HeldPublication}
use Rattle.xcp_locked.specs.Publications.{Publication, Published, publication}

-- Of all that is published of these exchanges of a slave that was v, from the publication with the number `first` on, the reader
-- holds the member with this number, and that one's place is told.
pub record IsSettledAt (v : SlaveValue) (xs : List Exchange) (first : ℕ) (reader : ReaderEnd) (s : HeldPublication) : Type 0 where
  pub list : List Publication
  pub published : Published v xs list
  pub index : ℕ
  pub number_is : s.number ≡ first + index
  pub number : HoldsNumber reader s.number
  pub member : slice_get list index ≡ Some (publication s.from (image_held reader))

-- The reader was told of these images, all that were published. What it holds stays.
pub record WasTold (published : List (List ℕ)) (old new : ReaderEnd) : Type 0 where
  pub same_reader : (new.bank ≡ old.bank) × (new.index ≡ old.index)
  pub held : new.held ≡ old.held
  pub seen : new.seen ≡ published
  pub past : new.past ≡ old.seen ∷ old.past

-- the reader holds a publication that is older than that one
abbrev pub HoldsEarlier : ℕ → ReaderEnd → Type 0
HoldsEarlier first reader = (b p : ℕ) × (reader.held ≡ Some (b, p)) × (p < first)
