-- When a caller's receipts are those of a chapter.
use Rattle.std.specs.Prelude.{◌≡◌, ◌≢◌, ◌<◌, ℕ, Bool, suc, List, [], ◌∷◌, take, ◌==◌, nat_le, if◌then◌else◌, Some}
use Rattle.std.specs.List.{slice_get}
use Rattle.xcp_trace.specs.declared.Entry.{Entry}
use Rattle.xcp_locked.specs.declared.receipt.Receipt.{Receipt}
use Rattle.xcp_locked.specs.declared.ledger.Unsettled.{Unsettled}
use Rattle.xcp_locked.specs.Caller.{CallerValue}
use Rattle.xcp_locked.specs.Receipts.{receipt_of}

-- A caller's tally of a chapter: the receipts for the entries of this caller, in order, each with its place. The first entry of the
-- list stands at the place given.
abbrev pub tally : ℕ → ℕ → ℕ → List Entry → List Receipt
tally who chapter at [] = []
tally who chapter at (e ∷ es) = if e.caller == who then receipt_of chapter at e ∷ tally who chapter (suc at) es else tally who chapter (suc at) es

-- the receipts of these chapters, in order
abbrev pub among : (ℕ → Bool) → List Receipt → List Receipt
among test [] = []
among test (r ∷ rs) = if test r.chapter then r ∷ among test rs else among test rs

-- Which chapters' receipts are compared: of a chapter that was cut its own, of the open one also those of later ones, which there
-- can't be.
abbrev pub compared : Bool → ℕ → ℕ → Bool
compared later chapter other = if later then nat_le chapter other else (other == chapter)

abbrev pub receipts_for : Bool → ℕ → List Receipt → List Receipt
receipts_for later chapter receipts = among (compared later chapter) receipts

-- k is the first index at which two lists differ: one may end there
abbrev pub DifferAt : ℕ → List Receipt → List Receipt → Type 0
DifferAt k xs ys = (take k xs ≡ take k ys) × (slice_get xs k ≢ slice_get ys k)

-- the caller's receipts for a chapter (of an open one, for it and for later ones) are its tally of it
abbrev pub IsSettledFor : Bool → ℕ → List Entry → CallerValue → Type 0
IsSettledFor later chapter entries c = receipts_for later chapter c.receipts ≡ tally c.number chapter 0 entries

-- they differ first at this index, counted within these receipts
abbrev pub DiffersFor : Bool → ℕ → List Entry → CallerValue → ℕ → Type 0
DiffersFor later chapter entries c k = DifferAt k (receipts_for later chapter c.receipts) (tally c.number chapter 0 entries)

-- the first n callers are settled
abbrev pub AreSettledFor : Bool → ℕ → List Entry → ℕ → List CallerValue → Type 0
AreSettledFor later chapter entries n callers = (i : ℕ) (c : CallerValue) → i < n → slice_get callers i ≡ Some c → IsSettledFor later chapter entries c

-- A caller and an index: the caller's receipts differ there for the first time, and all callers before it are settled.
pub record FirstUnsettledFor (later : Bool) (chapter : ℕ) (entries : List Entry) (callers : List CallerValue) (u : Unsettled) : Type 0 where
  pub caller : CallerValue
  pub at_place : slice_get callers u.caller ≡ Some caller
  pub differs : DiffersFor later chapter entries caller u.at
  pub before : AreSettledFor later chapter entries u.caller callers
