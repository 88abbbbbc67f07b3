-- What a keeper refuses.
use Rattle.std.specs.Prelude.{◌≡◌, ◌≢◌, ◌⊎◌, ◌<◌, ◌≤◌, ℕ, false, [], ◌∷◌, ◌++◌, Some, length}
use Rattle.std.specs.List.{slice_get}
use Rattle.xcp_memory.specs.Layout.{LayoutValue}
use Rattle.xcp_locked.specs.Chapters.{AreJoined, Follows}
use Rattle.xcp_locked.specs.LockedSlave.{ChapterValue, LockedValue}
use Rattle.xcp_locked.specs.SettledReceipts.{DifferAt, receipts_for, tally}
use Rattle.xcp_locked.specs.Sheaves.{SheafValue}
use Rattle.xcp_locked.specs.declared.joining.Discord.{Discord}
use Rattle.xcp_locked.specs.declared.joining.Discord.TheVariants as discords
use Rattle.xcp_service.specs.Keeping.{IsSettledBy, KeeperValue}
use Rattle.xcp_service.specs.Parcels.{ParcelValue}
use Rattle.xcp_service.specs.declared.keeper.Unkept.{Unkept}
use Rattle.xcp_service.specs.declared.keeper.Unkept.TheVariants as unkept

-- A sheaf has just what the keeper's chapters still want of its caller: with it the caller is settled for each chapter that was taken and cut
-- off before the sheaf was handed over, and it has no receipt of another chapter.
pub record HasItsDue (k : KeeperValue) (s : SheafValue) : Type 0 where
  pub settles : (j : ℕ) (c : ChapterValue) → slice_get k.chapters j ≡ Some c → j < s.until → IsSettledBy (k.sheaves ++ s ∷ []) c s.caller
  pub others : (n : ℕ) → (s.until ≤ n) ⊎ (length k.chapters ≤ n) → receipts_for false n s.receipts ≡ []

-- A place among the receipts of a sheaf: the first one of a chapter that isn't its caller's call there; or, named by the chapter that was open, how
-- many were right, where there are more.
abbrev pub IsWrongAt : KeeperValue → SheafValue → ℕ → ℕ → Type 0
IsWrongAt k s chapter at =
    ((c : ChapterValue) × (slice_get k.chapters chapter ≡ Some c) × DifferAt at (receipts_for false chapter s.receipts) (tally s.caller chapter 0 c.entries))
    ⊎ ((chapter ≡ s.until) × (at < length s.receipts))

-- a sheaf that hasn't its due, and where it is wrong
pub record RefusesSheaf (k : KeeperValue) (s : SheafValue) (d : Discord) : Type 0 where
  pub lacks : HasItsDue k s → ⊥
  pub chapter : ℕ
  pub at : ℕ
  pub wrong : IsWrongAt k s chapter at
  pub told : d ≡ discords.Receipts chapter (record { caller = s.caller; at = at })

-- a chapter that doesn't come next, and the number of the one that does
abbrev pub RefusesChapter : KeeperValue → ChapterValue → Discord → Type 0
RefusesChapter k c d = (Follows k.number k.before k.last c.number c.before c.base → ⊥) × (d ≡ discords.Chapter k.number)

-- What came under this number isn't what a keeper takes whose chapters come under the number of the desk: a chapter that came under another one or
-- doesn't come next, or a sheaf of another caller or without its due.
abbrev pub RefusesParcel : ℕ → ℕ → KeeperValue → ParcelValue → Discord → Type 0
RefusesParcel desk number k p d =
    ((c : ChapterValue) × (p.chapters ≡ c ∷ []) × (((number ≢ desk) × (d ≡ discords.Chapter k.number)) ⊎ RefusesChapter k c d))
    ⊎ ((s : SheafValue) × (p.sheaves ≡ s ∷ []) × (((s.caller ≢ number) × (d ≡ discords.Receipts s.until (record { caller = s.caller; at = 0 }))) ⊎ RefusesSheaf k s d))

-- why a keeper goes no further: it had no memory, or refuses what came
abbrev pub GoesNoFurther : (Discord → Type 0) → Unkept → Type 0
GoesNoFurther Refuses why = (why ≡ unkept.Memory) ⊎ ((d : Discord) × (why ≡ unkept.Discord d) × Refuses d)

-- A keeper that goes no further: how it stood, what came, and why it doesn't take it.
pub record RefusalValue : Type 0 where
  pub keeper : KeeperValue
  pub number : ℕ
  pub came : ParcelValue
  pub why : Unkept

abbrev pub IsKeeperRefusal : ℕ → RefusalValue → Type 0
IsKeeperRefusal desk r = GoesNoFurther (RefusesParcel desk r.number r.keeper r.came) r.why

-- A keeper meets a slave: no chapter waits, and those that it took lead on from the opening to the slave's open one.
abbrev pub IsMet : LayoutValue → KeeperValue → LockedValue → Type 0
IsMet layout k l = (k.waiting ≡ []) × AreJoined layout k.chapters l.chapter l.before l.base
