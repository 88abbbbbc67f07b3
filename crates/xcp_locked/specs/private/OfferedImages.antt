-- When a submit publishes.
use Rattle.std.specs.Prelude.{◌≡◌, ◌≢◌, ◌<◌, ◌≤◌, ◌+◌, ◌⊎◌, ℕ, List, [], ◌∷◌, ◌++◌, length}
use Rattle.xcp_bank.specs.BankEnds.{newest}
use Rattle.xcp_bank.specs.BankId.{BankId, image_bytes}
use Rattle.xcp_slave.specs.declared.Exchange.{Exchange}
use Rattle.xcp_slave.specs.SlaveValue.{SlaveValue}
use Rattle.xcp_locked.specs.declared.publisher.Publisher.{Publisher}
use Rattle.xcp_locked.specs.Publications.{Publication, Published, image_of, images_of}
use Rattle.xcp_locked.specs.private.PublicationPlaces.{places_of}

-- The bank of this name, with images of so many bytes, one at least.
abbrev pub IsOwnBank : ℕ → BankId → BankId → Type 0
IsOwnBank size named bank = (bank ≡ named) × (image_bytes bank ≡ size) × (0 < size)

-- What the writer of this bank has published since the chapter's first image, and where, is what is published of these exchanges,
-- which led from v to w; the image published last is at hand, and the bank has images of so many bytes.
pub record IsOfferKept (size : ℕ) (bank : BankId) (v : SlaveValue) (xs : List Exchange) (w : SlaveValue) (p : Publisher) : Type 0 where
  pub list : List Publication
  pub published : Published v xs list
  pub front : List (List ℕ)
  pub fronts : length front ≡ p.first
  pub images : p.writer.publications ≡ front ++ images_of list
  pub places : p.places.items ≡ places_of list
  pub few : length list ≤ length xs + 1
  pub last : p.last.items ≡ image_of w
  pub newest : newest p.writer ≡ p.last.items
  pub named : p.writer.bank ≡ bank
  pub sized : image_bytes bank ≡ size

-- The image is published with this place where it isn't the last one, and else nothing changes.
pub record Offers (place : ℕ) (image : List ℕ) (old new : Publisher) : Type 0 where
  pub bank : new.writer.bank ≡ old.writer.bank
  pub first : new.first ≡ old.first
  pub last : new.last.items ≡ image
  pub newest : newest new.writer ≡ new.last.items
  pub outcome : ((image ≡ old.last.items) × (new.writer.publications ≡ old.writer.publications) × (new.places.items ≡ old.places.items)) ⊎ ((image ≢ old.last.items) × (new.writer.publications ≡ old.writer.publications ++ image ∷ []) × (new.places.items ≡ old.places.items ++ place ∷ []))
