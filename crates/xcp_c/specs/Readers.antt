-- What a task in C does with a reader.
use Rattle.std.specs.Prelude.{◌≡◌, ◌↔◌, ◌⊎◌, ℕ, ◌+◌, ◌-◌, ◌/◌, ◌%◌, ◌<◌, List, [], length, take, drop, Option, Some, None}
use Rattle.xcp_bank.specs.BankId.{buffer_words, image_bytes}
use Rattle.xcp_bank.specs.BankEnds.{AcquireDoes, FollowsTold, Holds, HoldsNumber, IsRun, KnowsMore, ReadDoes, ReaderEnd, TellsTaken, image_held, words_in}
use mathlib.Core.List.{IsPrefix}
use Rattle.xcp_bank.specs.SeatKnowledge.{AllBegin}
use Rattle.xcp_bank.specs.declared.taken.Taken.{Taken}
use Rattle.xcp_bank.specs.declared.taken.Taken.TheVariants.{Newer, Same}

-- What an acquire does with the reader behind a handle.
pub record Acquired (taken : Taken) (old new : Option ReaderEnd) : Type 0 where
  pub before : ReaderEnd
  pub after : ReaderEnd
  pub was : old ≡ Some before
  pub is : new ≡ Some after
  pub same_reader : (after.bank ≡ before.bank) × (after.index ≡ before.index)
  pub holds_the_last : HoldsNumber after (length after.seen - 1)
  pub has_seen : 0 < length after.seen
  pub knows : KnowsMore before after
  pub tells : TellsTaken taken before after
  pub looked : (b p : ℕ) → after.held ≡ Some (b, p) → b ≡ after.looked
  pub does : AcquireDoes taken before after

-- What a read of the bytes from `at` on does: they are those of the image that the reader holds.
pub record ReadsImage (at : ℕ) (old : Option ReaderEnd) (out : List ℕ) (new : Option ReaderEnd) : Type 0 where
  pub before : ReaderEnd
  pub after : ReaderEnd
  pub was : old ≡ Some before
  pub is : new ≡ Some after
  pub bytes : out ≡ take (length out) (drop at (image_held before))
  pub same_reader : (after.bank ≡ before.bank) × (after.index ≡ before.index)
  pub same : (after.held ≡ before.held) × (after.seen ≡ before.seen)
  pub does : ReadDoes (at / 8) (words_in at (length out)) before after
  pub run : IsRun after
  pub follows : 0 < length out → FollowsTold before after

-- What is told of the held publication's number, from 0, modulo 2 ^ 64.
pub record Numbered (n : ℕ) (old new : Option ReaderEnd) : Type 0 where
  pub before : ReaderEnd
  pub after : ReaderEnd
  pub was : old ≡ Some before
  pub is : new ≡ Some after
  pub number : (b p : ℕ) → before.held ≡ Some (b, p) → n ≡ p % 18446744073709551616
  pub known : (b p : ℕ) → before.held ≡ Some (b, p) → p < length after.seen
  pub same_reader : (after.bank ≡ before.bank) × (after.index ≡ before.index)
  pub same : (after.held ≡ before.held) × (after.seen ≡ before.seen)
  pub does : ReadDoes (buffer_words before.bank - 1) 1 before after
  pub run : IsRun after
  pub follows : FollowsTold before after

-- no reader, or one that holds nothing
abbrev pub HoldsNothing : Option ReaderEnd → Type 0
HoldsNothing reader = (reader ≡ None) ⊎ ((x : ReaderEnd) × (reader ≡ Some x) × ¬ Holds x)

-- No reader, or one that holds nothing, or bytes that are not all in an image.
abbrev pub CanNotRead : ℕ → ℕ → Option ReaderEnd → Type 0
CanNotRead at n reader = (reader ≡ None) ⊎ ((x : ReaderEnd) × (reader ≡ Some x) × (¬ Holds x ⊎ (image_bytes x.bank < at + n)))
