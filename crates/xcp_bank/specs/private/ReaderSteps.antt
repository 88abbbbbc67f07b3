-- What each step of a reader tells its seat: from what it knew, by the number found, to what it knows then. `before` is all that has
-- happened in the core: what the reader has then is that and one deed more, the step's own.
use Rattle.std.specs.Prelude.{◌≡◌, ℕ, suc, ◌+◌, ◌*◌, ◌<◌, ◌≤◌, List, [], ◌∷◌, ◌++◌, length, slice_index, slice_index_or, Some, Bool}
use Rattle.atomic_table.specs.Table.{Me, Step}
use Rattle.pin_core.specs.CurrentWord.{head_of}
use Rattle.pin_core.specs.State.{PinState, reader}
use Rattle.pin_core.specs.Effects.{looking, pinning, leaving}
use Rattle.xcp_bank.specs.PinHistory.{Deed, Grows, Ran, looked_at, pinned_at, given_up, has_read}
use mathlib.Core.List.{IsPrefix}
use Rattle.xcp_bank.specs.SeatKnowledge.{AllBegin, Reading, Known, one_reader}
use Rattle.xcp_bank.specs.TableRule.{IsNumbered}

abbrev pub Seat : Type 0
Seat = Me (Unit {0}) Known

-- A step of a seat that stands for one reader.
abbrev pub reader_plays : (ℕ → Reading → ℕ → Reading → Type 0) → Step (Unit {0}) → Seat → ℕ → Seat → Type 0
reader_plays after st m n m' = (r : ℕ) (x : Reading) → m.0 ≡ one_reader r x → (y : Reading) × (m' ≡ (one_reader r y, m.1)) × after r x n y

-- How far the reader's history reaches: all that had happened, of which nothing is its own since its last step but what it knows;
-- and the writer's history, where that was told to it.
pub record Reaches (r : ℕ) (x : Reading) (before : List Deed) : Type 0 where
  pub grows : Grows (suc r) x.history before x.pending
  pub heard : IsPrefix x.heard before

-- What a Look or a Pin finds in word 0, and the publications there are then: all that it had seen, and perhaps more.
pub record Finds (r : ℕ) (x : Reading) (n index : ℕ) (list : List (List ℕ)) (before : List Deed) : Type 0 where
  pub count : ℕ
  pub few : count ≤ 6
  pub buffer : index < 8
  pub head : n ≡ head_of index count
  pub some : 0 < length list
  pub begins : IsPrefix x.list list
  pub pasts : AllBegin x.past list
  pub reaches : Reaches r x before

-- The history that the reader has is a run to a state in which it holds what it says, and is gone or not.
pub record FollowsHistory (W r : ℕ) (y : Reading) : Type 0 where
  pub state : PinState
  pub ran : Ran W y.history state
  pub held : (reader state r).held ≡ y.pins.held
  pub gone : (reader state r).gone ≡ y.pins.gone

abbrev pub reading_after_pin : ℕ → Reading → ℕ → List (List ℕ) → List Deed → Reading
reading_after_pin r x index list before = record {
  pins = pinning index (length list) x.pins;
  list = list;
  past = [];
  history = before ++ pinned_at r index ∷ [];
  pending = [];
  heard = x.heard;
}

-- What the reader knows is true of the state that its history ends in: `looked` is current there, what it has seen is all that is
-- published there, and the core knows the same of it.
pub record UpToDate (W r : ℕ) (y : Reading) : Type 0 where
  pub state : PinState
  pub ran : Ran W y.history state
  pub index : state.index ≡ y.pins.looked
  pub list : state.writer.publications ≡ y.list
  pub pins : reader state r ≡ y.pins

-- Pin: the reader holds the last publication.
pub record Pinned (W r : ℕ) (x : Reading) (n : ℕ) (y : Reading) : Type 0 where
  pub index : ℕ
  pub list : List (List ℕ)
  pub before : List Deed
  pub finds : Finds r x n index list before
  pub is : y ≡ reading_after_pin r x index list before
  pub up_to_date : UpToDate W r y

abbrev pub reading_after_look : ℕ → Reading → ℕ → List (List ℕ) → List Deed → Reading
reading_after_look r x index list before = record {
  pins = looking index (length list) x.pins;
  list = list;
  past = [];
  history = before ++ looked_at r index ∷ [];
  pending = [];
  heard = x.heard;
}

-- Look: what is held is the last publication exactly where its buffer is current.
pub record Looked (W r : ℕ) (x : Reading) (n : ℕ) (y : Reading) : Type 0 where
  pub index : ℕ
  pub list : List (List ℕ)
  pub before : List Deed
  pub finds : Finds r x n index list before
  pub is : y ≡ reading_after_look r x index list before
  pub up_to_date : UpToDate W r y
  pub current : (b p : ℕ) → x.pins.held ≡ Some (b, p) → b ≡ index → p + 1 ≡ length list
  pub newest : (b p : ℕ) → x.pins.held ≡ Some (b, p) → p + 1 ≡ length list → b ≡ index
  pub known : (b p : ℕ) → x.pins.held ≡ Some (b, p) → p < length list

abbrev pub reading_after_unpin : ℕ → Bool → List Deed → Reading → Reading
reading_after_unpin r last before x = record {
  pins = leaving last x.pins;
  list = x.list;
  past = x.past;
  history = before ++ given_up r last ∷ [];
  pending = [];
  heard = x.heard;
}

-- Unpin: the reader holds nothing, and at the last it is gone.
pub record GivesUp (W : ℕ) (last : Bool) (r : ℕ) (x y : Reading) : Type 0 where
  pub before : List Deed
  pub reaches : Reaches r x before
  pub is : y ≡ reading_after_unpin r last before x
  pub follows : FollowsHistory W r y

abbrev pub Unpinned : ℕ → Bool → ℕ → Reading → ℕ → Reading → Type 0
Unpinned W last r x n y = GivesUp W last r x y

-- Read, which changes nothing but the history.
abbrev pub reading_after_read : ℕ → ℕ → ℕ → List Deed → Reading → Reading
reading_after_read r k word before x = record {
  pins = x.pins;
  list = x.list;
  past = x.past;
  history = before ++ has_read r k word ∷ [];
  pending = [];
  heard = x.heard;
}

-- Read of the word i of the table, in buffers of W words: where it is word k of the held buffer, it is word k of the held publication.
pub record ReadAt (W i : ℕ) (r : ℕ) (x : Reading) (n : ℕ) (y : Reading) : Type 0 where
  pub k : ℕ
  pub before : List Deed
  pub place : (b p : ℕ) → x.pins.held ≡ Some (b, p) → i ≡ 9 + (b * W + k)
  pub reaches : Reaches r x before
  pub is : y ≡ reading_after_read r k n before x
  pub follows : FollowsHistory W r y
  pub value : (b p k : ℕ) → x.pins.held ≡ Some (b, p) → i ≡ 9 + (b * W + k) → k < W → n ≡ slice_index (slice_index_or x.list p []) k
  pub numbered : (b p : ℕ) → x.pins.held ≡ Some (b, p) → IsNumbered W p (slice_index_or x.list p [])
  pub pasts : AllBegin x.past x.list
