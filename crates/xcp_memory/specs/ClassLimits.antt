-- How much there may be of a layout, by its class.
use Rattle.xcp_memory.specs.declared.class.Class.{Class}
use Rattle.xcp_memory.specs.declared.class.Class.TheVariants.{Papers, Large}
use Rattle.xcp_memory.specs.declared.class.ClassLimits.{ClassLimits}

-- how many bytes the segments have at most in all, each counted once, on however many pages it stands; how many segments, bytes of
-- signals and event channels there are at most; how many DAQ lists, ODTs and ODT entries a tool allocates at most, in all; how many packets wait for it at
-- most; and how many bytes BUILD_CHECKSUM sums up at most in one call, in the first class as many as a double word says
abbrev pub limits_of : Class → ClassLimits
limits_of Papers = record { bytes = 2040; segments = 4; signals = 64; events = 8; lists = 16; odts = 64; entries = 256; packets = 64; checksum = 0xFFFF_FFFF }
limits_of Large = record { bytes = 1048576; segments = 16; signals = 16384; events = 64; lists = 64; odts = 252; entries = 4096; packets = 512; checksum = 0x1_0000 }
