-- Images that a task takes.
use Rattle.std.specs.Prelude.{◌≡◌, ◌⊎◌, ◌+◌, ◌*◌, ◌<◌, ◌≤◌, ℕ, Bool, true, false, List, [], ◌∷◌, ◌++◌, length}
use Rattle.std.specs.List.{count_by}
use Rattle.pin_core.specs.declared.events.Event.{Event}
use Rattle.pin_core.specs.declared.events.Event.TheVariants as events
use Rattle.xcp_bank.specs.PinHistory.{Deed}
use Rattle.xcp_bank.specs.BankEnds.{Holds, HoldsNumber, ReaderDoes, ReaderEnd, image_held}
use mathlib.Core.List.{IsPrefix}
use Rattle.xcp_memory.specs.Layout.{LayoutValue}
use Rattle.xcp_slave.specs.declared.Request.{Request}
use Rattle.xcp_slave.specs.SlaveValue.{SlaveValue}
use Rattle.xcp_trace.specs.declared.Entry.{Entry}
use Rattle.xcp_locked.specs.declared.receipt.Receipt.{Receipt}
use Rattle.xcp_locked.specs.Journal.{entry, exchanges}
use Rattle.xcp_locked.specs.LockedSlave.{IsReached}
use Rattle.xcp_locked.specs.PublishingCalls.{AreAllImages, AreImagesFrom}

-- whether a reader's step tells it which image is current
abbrev pub is_look : Event → Bool
is_look (events.Look r) = true
is_look (events.Pin r) = true
is_look _ = false

-- how many Looks and Pins are among these steps
abbrev pub looks : List Deed → ℕ
looks deeds = count_by (λ d. is_look d.0) deeds

-- A call of this request was accepted, and under the same hold of the lock the reader was told all that was published by then: in
-- two Looks, which change nothing of what it holds.
pub record IsTold (layout : LayoutValue) (caller : ℕ) (request : Request) (old new : List Receipt) (before after : ReaderEnd) : Type 0 where
  pub call : Receipt
  pub added : new ≡ old ++ call ∷ []
  pub asked : call.request ≡ request
  pub calls : ℕ
  pub base : SlaveValue
  pub reached : IsReached layout calls base
  pub earlier : List Entry
  pub place : length earlier ≡ call.at
  pub first : ℕ
  pub images : AreImagesFrom first base (exchanges (earlier ++ entry caller call.request call.answer ∷ [])) after.seen
  pub all_images : AreAllImages layout calls base (exchanges (earlier ++ entry caller call.request call.answer ∷ [])) after.seen
  pub deeds : List Deed
  pub did : ReaderDoes before after deeds
  pub twice : looks deeds ≡ 2
  pub past : after.past ≡ before.seen ∷ before.past
  pub held : after.held ≡ before.held
  pub same_reader : (after.bank ≡ before.bank) × (after.index ≡ before.index)

-- A reader took the current image, and read all of it.
pub record TookImage (old new : ReaderEnd) (image : List ℕ) : Type 0 where
  pub same_reader : (new.bank ≡ old.bank) × (new.index ≡ old.index)
  pub deeds : List Deed
  pub did : ReaderDoes old new deeds
  pub looked : 1 ≤ looks deeds
  pub holds : Holds new
  pub rises : (p q : ℕ) → HoldsNumber old p → HoldsNumber new q → p ≤ q
  pub read : image ≡ image_held new

-- What a reader did in so many cycles, and the image that was read last, before them and after.
pub record Took (cycles : ℕ) (whole : Bool) (old new : ReaderEnd) (before after : List ℕ) : Type 0 where
  pub same_reader : (new.bank ≡ old.bank) × (new.index ≡ old.index)
  -- its own steps, all of them and in order: for each cycle two Looks where it is told what was published, and a Look or a Pin
  -- where it takes the image, if the whole work was done
  pub deeds : List Deed
  pub did : ReaderDoes old new deeds
  pub looked : whole ≡ true → 3 * cycles ≤ looks deeds
  -- what it has seen only grows, and the number of what it holds never falls
  pub seen : IsPrefix old.seen new.seen
  pub holds : Holds old → Holds new
  pub rises : (p q : ℕ) → HoldsNumber old p → HoldsNumber new q → p ≤ q
  -- the image read last is that of the publication that it holds, unless nothing was done
  pub last : ((new ≡ old) × (after ≡ before)) ⊎ (after ≡ image_held new)
  pub taken : whole ≡ true → 0 < cycles → after ≡ image_held new

-- An image that isn't older than this caller's call: when the call stood last in its chapter, `published` was all that was published
-- for the readers, and the last of that is the controller's image behind the call. The reader has seen all of it, and holds the last
-- of it or a later one.
pub record IsNotOlder (layout : LayoutValue) (caller : ℕ) (call : Receipt) (reader : ReaderEnd) : Type 0 where
  -- where the call's chapter begins, and the calls of the chapter before it
  pub before : ℕ
  pub base : SlaveValue
  pub reached : IsReached layout before base
  pub earlier : List Entry
  pub place : length earlier ≡ call.at
  pub first : ℕ
  pub published : List (List ℕ)
  pub images : AreImagesFrom first base (exchanges (earlier ++ entry caller call.request call.answer ∷ [])) published
  -- all of these, also those of earlier chapters, are images along the calls since the opening
  pub all_images : AreAllImages layout before base (exchanges (earlier ++ entry caller call.request call.answer ∷ [])) published
  pub seen : IsPrefix published reader.seen
  pub holds : (number : ℕ) → HoldsNumber reader number → length published ≤ number + 1
