-- The pools that hold the lists: what is true of them at any time. Each has room for all that the class has, and holds no more.
use Rattle.std.specs.Prelude.{◌≡◌, ℕ, ◌≤◌, List, length, Option, Vec, vec_capacity}
use Rattle.xcp_memory.specs.declared.Class.{Class}
use Rattle.xcp_memory.specs.ClassLimits.{limits_of}
use Rattle.xcp_daq.specs.declared.allocation.Allocation.{Allocation}
use Rattle.xcp_daq.specs.declared.element.Element.{Element}
use Rattle.xcp_daq.specs.declared.mode.Mode.{Mode}
use Rattle.xcp_daq.specs.declared.pointer.Pointer.{Pointer}
use Rattle.xcp_daq.specs.DaqInvariant.{IsDaq}
use Rattle.xcp_daq.specs.Pools.{daq_of}
use Rattle.xcp_daq.specs.private.SplicedPools.{IsFit}

-- The class, whose limits hold, and the ODTs of all lists, each a list of entries.
pub record OdtsValue : Type 0 where
  pub class : Class
  pub lists : List (List (List (Option Element)))

-- a pool that has room for so many, and holds no more
pub record IsPool {A Z : Type 0} (most : ℕ) (pool : Vec A Z) : Type 0 where
  pub few : length pool.items ≤ most
  pub room : most ≤ vec_capacity pool

-- the pools of ODTs and entries fit each other and the class
pub record IsOdts {Z : Type 0} (class : Class) (odt_counts entry_counts : Vec ℕ Z) (elements : Vec (Option Element) Z) : Type 0 where
  pub fit : IsFit odt_counts.items entry_counts.items elements.items
  pub lists : IsPool (limits_of class).lists odt_counts
  pub odts : IsPool (limits_of class).odts entry_counts
  pub entries : IsPool (limits_of class).entries elements

-- the modes and the ODTs of as many lists, which are lawful; there is room for the modes of all lists that the class has
pub record IsModes {Z : Type 0} (modes : Vec Mode Z) (odts : OdtsValue) (pointer : Option Pointer) (last : Option Allocation) : Type 0 where
  pub same : length modes.items ≡ length odts.lists
  pub lawful : IsDaq (daq_of odts.class modes.items odts.lists pointer last)
  pub room : (limits_of odts.class).lists ≤ vec_capacity modes
