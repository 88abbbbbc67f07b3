-- The limits of the classes, beside each other.
use Rattle.std.proofs.Common.{◌<◌, ◌≤◌, arith}
use Rattle.xcp_memory.specs.declared.Class.{Class}
use Rattle.xcp_memory.specs.declared.Class.TheVariants.{Papers, Large}
use Rattle.xcp_memory.specs.ClassLimits.{limits_of}

-- the number of an ODT is no code of a response or an event
pub few-odts : (class : Class) → (limits_of class).odts ≤ 252
few-odts Papers = omega arith
few-odts Large = omega arith

-- a packet can wait
pub some-room : (class : Class) → 0 < (limits_of class).packets
some-room Papers = omega arith
some-room Large = omega arith

-- the number of an event channel is a byte
pub few-events : (class : Class) → (limits_of class).events ≤ 64
few-events Papers = omega arith
few-events Large = omega arith
