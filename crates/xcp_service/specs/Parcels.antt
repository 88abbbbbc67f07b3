-- What goes to a keeper by its post, and what came of it.
use Rattle.std.specs.Prelude.{◌≡◌, ◌+◌, ℕ, ⊤, List, [], ◌∷◌, ◌++◌, length, map}
use Rattle.xcp_memory.specs.Layout.{LayoutValue}
use Rattle.xcp_scribe.specs.Given.{Given}
use Rattle.xcp_locked.specs.Caller.{CallerValue, callers_of}
use Rattle.xcp_locked.specs.LockedSlave.{ChapterValue}
use Rattle.xcp_locked.specs.Sheaves.{SheafValue}
use Rattle.xcp_locked.specs.declared.receipt.Receipt.{Receipt}
use Rattle.xcp_service.specs.Keeping.{KeeperValue, receipts_by}
use Rattle.xcp_service.specs.Sheaves.{receipts_in}

-- What goes at once: a chapter that was cut off, or a sheaf that a caller handed over.
pub record ParcelValue : Type 0 where
  pub chapters : List ChapterValue
  pub sheaves : List SheafValue

-- what a scribe is given of chapters: the calls of each, and the slave with which it ends
abbrev pub given_in : List ChapterValue → List Given
given_in chapters = map (λ (c : ChapterValue). record { calls = c.entries; last = c.last }) chapters

abbrev pub parcel_of_chapter : ChapterValue → ParcelValue
parcel_of_chapter c = record { chapters = c ∷ []; sheaves = [] }

abbrev pub parcel_of_sheaf : SheafValue → ParcelValue
parcel_of_sheaf s = record { chapters = []; sheaves = s ∷ [] }

-- the receipts in what a caller put, in order
abbrev pub receipts_put : List ParcelValue → List Receipt
receipts_put [] = []
receipts_put (p ∷ ps) = receipts_in p.sheaves ++ receipts_put ps

-- the chapters in what was put, in order
abbrev pub chapters_put : List ParcelValue → List ChapterValue
chapters_put [] = []
chapters_put (p ∷ ps) = p.chapters ++ chapters_put ps

-- These are all callers that an opening of a slave for so many gives out.
abbrev pub AreOpened : ℕ → List CallerValue → Type 0
AreOpened count cs = (layout : LayoutValue) × (cs ≡ callers_of layout count)

-- these are numbered, one behind another, from this number on
abbrev pub AreNumbered : ℕ → List CallerValue → Type 0
AreNumbered number [] = ⊤
AreNumbered number (c ∷ cs) = (c.number ≡ number) × AreNumbered (number + 1) cs

-- a caller has as many receipts as calls of it were accepted
abbrev pub HasAllReceipts : CallerValue → Type 0
HasAllReceipts c = c.accepted ≡ length c.receipts

-- What the keeper took of a caller's sheaves has all receipts that this caller ever had, in order, and no others.
abbrev pub IsHandedOver : KeeperValue → CallerValue → Type 0
IsHandedOver k c = receipts_by c.number k.sheaves ≡ c.receipts
