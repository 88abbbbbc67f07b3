-- What a seat of the bank knows. Nobody else changes it.
use Rattle.std.specs.Prelude.{ℕ, List, [], ◌∷◌, Option, None}
use Rattle.std.specs.List.{AllByRecursion}
use mathlib.Core.List.{IsPrefix}
use Rattle.pin_core.specs.State.{Reader, Writer, newcomer, opening}
use Rattle.xcp_bank.specs.PinHistory.{Deed}

-- The new list begins with each of these.
abbrev pub AllBegin : List (List (List ℕ)) → List (List ℕ) → Type 0
AllBegin olds new = AllByRecursion (λ (old : List (List ℕ)). IsPrefix old new) olds

-- A reader of the bank.
pub record Reading : Type 0 where
  -- what the core knows of it: what it holds, where it looked last, how much it has seen, and whether it is gone
  pub pins : Reader
  -- the publications that it has seen
  pub list : List (List ℕ)
  -- the lists that it had seen when it was told, since its own last Look or Pin
  pub past : List (List (List ℕ))
  -- all that happened in the core up to its own last step, this the last; and what it did since (each time it was told, two
  -- Looks), whose place in the history it learns at its next step
  pub history : List Deed
  pub pending : List Deed
  -- the writer's history when it last told this reader, which its own begins with from its next step on
  pub heard : List Deed

-- The writer of the bank.
pub record Writing : Type 0 where
  -- what the core knows of it
  pub pins : Writer
  -- the current buffer
  pub current : ℕ
  -- the words of each buffer
  pub words : List (List ℕ)
  -- a buffer that the last publication left without a holder, not the current one. It stays so until the next publication.
  pub idle : ℕ
  -- all that happened in the core up to its own last step, this the last
  pub history : List Deed

-- A seat stands for these readers, by number, and for the writer or not.
pub record Known : Type 0 where
  pub readers : List (ℕ × Reading)
  pub writer : Option Writing

-- a spent seat stands for nobody
abbrev pub nobody : Known
nobody = record { readers = []; writer = None }

abbrev pub one_reader : ℕ → Reading → Known
one_reader r x = record { readers = (r, x) ∷ []; writer = None }

-- a reader that has made no step, where these words are published
abbrev pub starting : List ℕ → Reading
starting words = record { pins = newcomer; list = words ∷ []; past = []; history = []; pending = []; heard = [] }

-- the writer that has made no step
abbrev pub beginning : List ℕ → Writing
beginning words = record {
  pins = (opening words).writer;
  current = 0;
  words = (opening words).words;
  idle = 1;
  history = [];
}
