-- Marks of the blocks that may stand in a buffer otherwise than in the newest image. The words of an image are blocks of 64, of which
-- the last may be shorter. The marks of a block stand side by side, one for each of the 8 buffers.
use Rattle.std.specs.Prelude.{◌≡◌, ◌≢◌, ◌⊎◌, ℕ, ◌+◌, ◌-◌, ◌*◌, ◌/◌, ◌<◌, ◌≤◌, Bool, true, false, List, [], length, slice_index, slice_index_or}
use Rattle.std.specs.Int.{div_ceil}
use Rattle.xcp_bank.specs.private.ImageWords.{word_in_image}

-- how many blocks an image of so many words has
abbrev pub blocks_in : ℕ → ℕ
blocks_in words = div_ceil words 64

-- whether the block of this number is marked for the buffer b
abbrev pub mark_of : List Bool → ℕ → ℕ → Bool
mark_of marks block b = slice_index_or marks (8 * block + b) false

-- All words have this size: 8 buffers of W words each.
pub record Sized (W : ℕ) (all : List (List ℕ)) : Type 0 where
  pub buffers : length all ≡ 8
  pub wide : (b : ℕ) → b < 8 → length (slice_index_or all b []) ≡ W

-- Where a block isn't marked for a buffer, its words stand there as in the image, which has n words.
abbrev pub Agrees : ℕ → List Bool → List (List ℕ) → List ℕ → Type 0
Agrees n marks all image = (b k : ℕ) → b < 8 → k < n → mark_of marks (k / 64) b ≡ false → slice_index (slice_index_or all b []) k ≡ word_in_image image k

-- The marks are right for buffers of W words, of which all but the last are an image's: by the words that the writer knows of them,
-- and by the image.
pub record IsMarked (W : ℕ) (marks : List Bool) (all : List (List ℕ)) (image : List ℕ) : Type 0 where
  pub size : length marks ≡ 8 * blocks_in (W - 1)
  pub sized : Sized W all
  pub long : length image ≡ 8 * (W - 1)
  pub agrees : Agrees (W - 1) marks all image

-- The blocks in which the bytes start..end lie are marked for all buffers, and no others are marked or lose a mark.
pub record MarkedToo (start end : ℕ) (old new : List Bool) : Type 0 where
  pub size : length new ≡ length old
  pub inside : (i : ℕ) → start < 512 * (i / 8) + 512 → 512 * (i / 8) < end → slice_index_or new i false ≡ true
  pub outside : (i : ℕ) → (512 * (i / 8) + 512 ≤ start) ⊎ (end ≤ 512 * (i / 8)) → slice_index_or new i false ≡ slice_index_or old i false

-- The blocks from..next aren't marked for the buffer b any more, and all other marks are as before.
pub record TakenAway (b from next : ℕ) (old new : List Bool) : Type 0 where
  pub size : length new ≡ length old
  pub gone : (block : ℕ) → from ≤ block → block < next → mark_of new block b ≡ false
  pub others : (block c : ℕ) → c < 8 → (block < from) ⊎ (next ≤ block) ⊎ (c ≢ b) → mark_of new block c ≡ mark_of old block c
