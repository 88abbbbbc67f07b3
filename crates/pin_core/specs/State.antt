-- The pin state: a published image in one of eight buffers, six readers that are counted and not known by name, and one writer.
-- It is told in three parts, by owner. (The standard has nothing of this: it is how a task takes an image without waiting.)
use Rattle.std.specs.Prelude.{ℕ, Bool, false, List, [], ◌∷◌, length, slice_index, slice_index_or, Option, None, replicate}

-- What one reader knows. Nobody else changes it.
pub record Reader : Type 0 where
  -- the buffer it holds, and the number of the publication that it found there
  pub held : Option (ℕ × ℕ)
  -- the buffer that was current at its last Look or Pin
  pub looked : ℕ
  -- how many publications there were at its last Look or Pin
  pub seen : ℕ
  -- it has left for good
  pub gone : Bool

-- What the writer knows. Nobody else changes it.
pub record Writer : Type 0 where
  -- for each buffer the pins that it had got in all when it was last replaced as the current one
  pub started : List ℕ
  -- the buffer that the last Scan found without a holder
  pub quiet : Option ℕ
  -- the buffer that is being built
  pub building : Option ℕ
  -- the words given to it so far
  pub written : List ℕ
  -- every image that was ever current, the newest last
  pub publications : List (List ℕ)

-- What all of them share, and the seven parts above.
pub record PinState : Type 0 where
  -- the current buffer
  pub index : ℕ
  -- the pins that it got since it became current
  pub count : ℕ
  -- the words of each buffer
  pub words : List (List ℕ)
  -- how many pins of each buffer were given back
  pub leavings : List ℕ
  pub writer : Writer
  pub readers : List Reader

-- A reader that has seen the first publication and holds nothing.
abbrev pub newcomer : Reader
newcomer = record { held = None; looked = 0; seen = 1; gone = false }

-- The opening: buffer 0 is current with the first image, and nobody holds anything.
abbrev pub opening : List ℕ → PinState
opening first = record {
  index = 0;
  count = 0;
  words = first ∷ replicate 7 (replicate (length first) 0);
  leavings = replicate 8 0;
  writer = record { started = replicate 8 0; quiet = None; building = None; written = []; publications = first ∷ [] };
  readers = replicate 6 newcomer;
}

-- The parts of a state, by number.

abbrev pub reader : PinState → ℕ → Reader
reader s r = slice_index_or s.readers r newcomer

abbrev pub words_of_buffer : PinState → ℕ → List ℕ
words_of_buffer s b = slice_index_or s.words b []

abbrev pub leavings_of : PinState → ℕ → ℕ
leavings_of s b = slice_index s.leavings b

abbrev pub started_of : PinState → ℕ → ℕ
started_of s b = slice_index s.writer.started b

-- how many publications there are
abbrev pub published : PinState → ℕ
published s = length s.writer.publications

-- the publication with this number, from 0
abbrev pub publication_at : PinState → ℕ → List ℕ
publication_at s p = slice_index_or s.writer.publications p []

-- how many words a buffer has
abbrev pub width : PinState → ℕ
width s = length (words_of_buffer s 0)
